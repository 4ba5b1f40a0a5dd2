-- What stands at the front of a row of fields.
use Rattle.std.specs.Prelude.{ℕ, List}
use Rattle.a64_tokens.specs.declared.value.Kind.{Kind}

-- a name and the kinds of the fields behind it
pub record Heading : Type 0 where
  pub text : List ℕ
  pub kinds : List Kind
