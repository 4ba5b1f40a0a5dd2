-- A shift is a name with an amount in parentheses behind it.
use Rattle.std.proofs.Common.{ℕ, List, Some, None, ap}
use Rattle.std.specs.Fmt.{decimal}
use Rattle.a64_base.specs.ShiftParts.{Shift}
use Rattle.a64_tokens.specs.Fields.{IsCall, call_text, IsShift, shift_text}
use Rattle.a64_tokens.specs.Operators.{shift_op_text}
use Rattle.a64_tokens.specs.Reads.{Reads, Always}
use Rattle.a64_read.proofs.Calls.{made_call, made_no_call}
use Rattle.a64_read.proofs.Plain.{shift_op_apart}

-- the name of a shift, and its amount
abbrev parts : Shift → List ℕ × List ℕ
parts s = (shift_op_text s.op, decimal s.amount)

pub no_call : (token : List ℕ) → Reads IsCall call_text token None → Reads IsShift shift_text token None
no_call token h = made_no_call IsShift parts (λ s. shift_op_apart s.op) token h

pub no_name : (token name amount : List ℕ) → Reads IsCall call_text token (Some (name, amount)) → Reads Always shift_op_text name None → Reads IsShift shift_text token None
no_name token name amount h named =
    made_call IsShift parts (λ s. shift_op_apart s.op) token (name, amount) h None
    (record { some = tt; only = λ s fits e. let none = named.only s.op tt (ap (λ (p : List ℕ × List ℕ). p.0) e) in absurd cc })
