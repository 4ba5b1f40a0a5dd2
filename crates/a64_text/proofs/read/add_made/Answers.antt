use Rattle.std.proofs.Common.{Bool, refl}
use Rattle.std.specs.Global.{Vec}
use Rattle.a64_inst.specs.declared.item.Item.{Item}
use Rattle.a64_text.specs.declared.name.Name.TheVariants as names
use Rattle.a64_text.specs.declared.state.ReaderState.{ReaderState}
use Rattle.a64_text.specs.AddsLine.{AddsMade}
use Rattle.a64_text.specs.Puts.{Puts}
use Rattle.a64_text.proofs.Adds.{all_ok, put_adds, others_add}
use Rattle.a64_text.proofs.read.add_made.Goals as goal

-- the state with these items
abbrev with_items : ReaderState → Vec Item → ReaderState
with_items state items = record state { file = record state.file { items = items } }

pub returns-in-Immediate : goal.returns-in-Immediate
returns-in-Immediate c = put_adds c.args.state.now (with_items c.args.state.now c.put_immediate.new.items) refl refl c.args.name (names.Immediate c.in-Immediate.name) c.args.values.now c.reserve.new.self.items c.put_immediate.result c.in-Immediate.is c.reserve.ensures.items c.put_immediate.ensures

pub returns-in-Register : goal.returns-in-Register
returns-in-Register c = put_adds c.args.state.now (with_items c.args.state.now c.put_register.new.items) refl refl c.args.name (names.Register c.in-Register.name) c.args.values.now c.reserve.new.self.items c.put_register.result c.in-Register.is c.reserve.ensures.items c.put_register.ensures

pub returns-in-Float : goal.returns-in-Float
returns-in-Float c = put_adds c.args.state.now (with_items c.args.state.now c.put_float.new.items) refl refl c.args.name (names.Float c.in-Float.name) c.args.values.now c.reserve.new.self.items c.put_float.result c.in-Float.is c.reserve.ensures.items c.put_float.ensures

pub returns-in-Vector : goal.returns-in-Vector
returns-in-Vector c = put_adds c.args.state.now (with_items c.args.state.now c.put_vector.new.items) refl refl c.args.name (names.Vector c.in-Vector.name) c.args.values.now c.reserve.new.self.items c.put_vector.result c.in-Vector.is c.reserve.ensures.items c.put_vector.ensures

pub returns-in-VectorMove : goal.returns-in-VectorMove
returns-in-VectorMove c = put_adds c.args.state.now (with_items c.args.state.now c.put_vector_move.new.items) refl refl c.args.name (names.VectorMove c.in-VectorMove.name) c.args.values.now c.reserve.new.self.items c.put_vector_move.result c.in-VectorMove.is c.reserve.ensures.items c.put_vector_move.ensures

pub returns-in-System : goal.returns-in-System
returns-in-System c = put_adds c.args.state.now (with_items c.args.state.now c.put_system.new.items) refl refl c.args.name (names.System c.in-System.name) c.args.values.now c.reserve.new.self.items c.put_system.result c.in-System.is c.reserve.ensures.items c.put_system.ensures

pub returns-in-Control : goal.returns-in-Control
returns-in-Control c =
    let new = with_items c.args.state.now c.put_control.new.items in
    all_ok (Puts (names.Control c.in-Control.name) c.args.values.now c.reserve.new.self.items new.file.items.items) (AddsMade c.args.name c.args.values.now c.args.state.now new)
    (λ made h. put_adds c.args.state.now new refl refl c.args.name (names.Control c.in-Control.name) c.args.values.now c.reserve.new.self.items made c.in-Control.is c.reserve.ensures.items h)
    c.put_control.result c.put_control.ensures

pub returns-in-Sequence : goal.returns-in-Sequence
returns-in-Sequence c =
    let new = with_items c.args.state.now c.put_sequence.new.items in
    all_ok (Puts (names.Sequence c.in-Sequence.name) c.args.values.now c.reserve.new.self.items new.file.items.items) (AddsMade c.args.name c.args.values.now c.args.state.now new)
    (λ made h. put_adds c.args.state.now new refl refl c.args.name (names.Sequence c.in-Sequence.name) c.args.values.now c.reserve.new.self.items made c.in-Sequence.is c.reserve.ensures.items h)
    c.put_sequence.result c.put_sequence.ensures

pub returns-in-Call : goal.returns-in-Call
returns-in-Call c =
    let new = with_items c.args.state.now c.put_call.new.items in
    all_ok (Puts (names.Call c.in-Call.name) c.args.values.now c.reserve.new.self.items new.file.items.items) (AddsMade c.args.name c.args.values.now c.args.state.now new)
    (λ made h. put_adds c.args.state.now new refl refl c.args.name (names.Call c.in-Call.name) c.args.values.now c.reserve.new.self.items made c.in-Call.is c.reserve.ensures.items h)
    c.put_call.result c.put_call.ensures

pub returns-in-Pair : goal.returns-in-Pair
returns-in-Pair c = put_adds c.args.state.now (with_items c.args.state.now c.put_pair.new.items) refl refl c.args.name (names.Pair c.in-Pair.name) c.args.values.now c.reserve.new.self.items c.put_pair.result c.in-Pair.is c.reserve.ensures.items c.put_pair.ensures

pub returns-in-Memory : goal.returns-in-Memory
returns-in-Memory c = put_adds c.args.state.now (with_items c.args.state.now c.put_memory.new.items) refl refl c.args.name (names.Memory c.in-Memory.name) c.args.values.now c.reserve.new.self.items c.put_memory.result c.in-Memory.is c.reserve.ensures.items c.put_memory.ensures

pub returns-in-Access : goal.returns-in-Access
returns-in-Access c = put_adds c.args.state.now (with_items c.args.state.now c.put_access.new.items) refl refl c.args.name (names.Access c.in-Access.op) c.args.values.now c.reserve.new.self.items c.put_access.result c.in-Access.is c.reserve.ensures.items c.put_access.ensures

pub returns-in-Bind : goal.returns-in-Bind
returns-in-Bind c = put_adds c.args.state.now (with_items c.args.state.now c.put_bind.new.items) refl refl c.args.name names.Bind c.args.values.now c.reserve.new.self.items c.put_bind.result c.in-Bind.is c.reserve.ensures.items c.put_bind.ensures

pub returns-in-Const : goal.returns-in-Const
returns-in-Const c =
    let reserved = with_items c.args.state.now c.reserve.new.self in
    all_ok (λ (made : Bool). AddsMade names.Const c.args.values.now reserved c.add_constant.new.state made) (AddsMade c.args.name c.args.values.now c.args.state.now c.add_constant.new.state)
    (λ made h. others_add c.args.state.now c.add_constant.new.state c.reserve.new.self made c.reserve.ensures.items c.args.name names.Const c.args.values.now c.in-Const.is h)
    c.add_constant.result c.add_constant.ensures

pub returns-in-Frame : goal.returns-in-Frame
returns-in-Frame c =
    let reserved = with_items c.args.state.now c.reserve.new.self in
    all_ok (λ (made : Bool). AddsMade names.Frame c.args.values.now reserved c.add_frame.new.state made) (AddsMade c.args.name c.args.values.now c.args.state.now c.add_frame.new.state)
    (λ made h. others_add c.args.state.now c.add_frame.new.state c.reserve.new.self made c.reserve.ensures.items c.args.name names.Frame c.args.values.now c.in-Frame.is h)
    c.add_frame.result c.add_frame.ensures

pub returns-in-Flag : goal.returns-in-Flag
returns-in-Flag c =
    let reserved = with_items c.args.state.now c.reserve.new.self in
    all_ok (λ (made : Bool). AddsMade names.Flag c.args.values.now reserved c.add_flag.new.state made) (AddsMade c.args.name c.args.values.now c.args.state.now c.add_flag.new.state)
    (λ made h. others_add c.args.state.now c.add_flag.new.state c.reserve.new.self made c.reserve.ensures.items c.args.name names.Flag c.args.values.now c.in-Flag.is h)
    c.add_flag.result c.add_flag.ensures
