pub mod InstTexts
