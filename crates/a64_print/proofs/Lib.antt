pub mod LabelSteps
