use Rattle.std.proofs.Common.{map, refl, sym, ap, subst}
use Rattle.a64_emit.specs.Emission.{CanPut, PutsCells}
use Rattle.a64_cells.specs.Words.{as_put}
use Rattle.a64_emit.proofs.Callings.{symbol_good, patchable_words, symbol_words, address_good, address_words, return_good, return_words, return_address_good, return_address_words}
use Rattle.a64_emit.proofs.call.emit_calling.Goals as goal

pub emit_patchable-requires : goal.emit_patchable-requires
emit_patchable-requires c =
    let a = c.args in
    let call = c.in-Call.info in
    let words = ap (map as_put) (patchable_words a.frame.now a.settings.now a.inst.now c.in-Call.info call c.in-Call.is refl a.kept c.if-info.true) in
    let known = symbol_good a.frame.now a.settings.now a.inst.now c.in-Call.info call c.in-Call.is refl c.requires.good in
    record {
      callee = tt;
      pop = known.1;
      can = subst (CanPut a.sink.now) words c.requires.can;
    }

pub returns-then-info : goal.returns-then-info
returns-then-info c =
    let a = c.args in
    let call = c.in-Call.info in
    let words = ap (map as_put) (patchable_words a.frame.now a.settings.now a.inst.now c.in-Call.info call c.in-Call.is refl a.kept c.if-info.true) in
    subst (PutsCells c.emit_patchable.result a.sink.now c.emit_patchable.new.sink) (sym words) c.emit_patchable.ensures

pub emit_call-requires : goal.emit_call-requires
emit_call-requires c =
    let a = c.args in
    let call = c.in-Call.info in
    let words = ap (map as_put) (symbol_words a.frame.now a.settings.now a.inst.now c.in-Call.info call c.in-Call.is refl a.kept c.if-info.false) in
    let known = symbol_good a.frame.now a.settings.now a.inst.now c.in-Call.info call c.in-Call.is refl c.requires.good in
    record {
      callee = tt;
      good = known.0;
      pop = known.1;
      can = subst (CanPut a.sink.now) words c.requires.can;
    }

pub returns-else-info : goal.returns-else-info
returns-else-info c =
    let a = c.args in
    let call = c.in-Call.info in
    let words = ap (map as_put) (symbol_words a.frame.now a.settings.now a.inst.now c.in-Call.info call c.in-Call.is refl a.kept c.if-info.false) in
    subst (PutsCells c.emit_call.result a.sink.now c.emit_call.new.sink) (sym words) c.emit_call.ensures

pub emit_call-requires-in-CallInd : goal.emit_call-requires-in-CallInd
emit_call-requires-in-CallInd c =
    let a = c.args in
    let call = c.in-CallInd.info in
    let words = ap (map as_put) (address_words a.frame.now a.settings.now a.inst.now c.in-CallInd.info call c.in-CallInd.is refl a.kept) in
    let known = address_good a.frame.now a.settings.now a.inst.now c.in-CallInd.info call c.in-CallInd.is refl c.requires.good in
    record {
      callee = known.0;
      good = known.1;
      pop = known.2;
      can = subst (CanPut a.sink.now) words c.requires.can;
    }

pub returns-in-CallInd : goal.returns-in-CallInd
returns-in-CallInd c =
    let a = c.args in
    let call = c.in-CallInd.info in
    let words = ap (map as_put) (address_words a.frame.now a.settings.now a.inst.now c.in-CallInd.info call c.in-CallInd.is refl a.kept) in
    subst (PutsCells c.emit_call-in-CallInd.result a.sink.now c.emit_call-in-CallInd.new.sink) (sym words) c.emit_call-in-CallInd.ensures

pub emit_return-requires : goal.emit_return-requires
emit_return-requires c =
    let a = c.args in
    let call = c.in-ReturnCall.info in
    let words = ap (map as_put) (return_words a.frame.now a.settings.now a.inst.now c.in-ReturnCall.info call c.in-ReturnCall.is refl a.kept) in
    let known = return_good a.frame.now a.settings.now a.inst.now c.in-ReturnCall.info call c.in-ReturnCall.is refl c.requires.good in
    record {
      callee = tt;
      restorable = known.1;
      good = known.0;
      can = subst (CanPut a.sink.now) words c.requires.can;
    }

pub returns-in-ReturnCall : goal.returns-in-ReturnCall
returns-in-ReturnCall c =
    let a = c.args in
    let call = c.in-ReturnCall.info in
    let words = ap (map as_put) (return_words a.frame.now a.settings.now a.inst.now c.in-ReturnCall.info call c.in-ReturnCall.is refl a.kept) in
    subst (PutsCells c.emit_return.result a.sink.now c.emit_return.new.sink) (sym words) c.emit_return.ensures

pub emit_return-requires-in-ReturnCallInd : goal.emit_return-requires-in-ReturnCallInd
emit_return-requires-in-ReturnCallInd c =
    let a = c.args in
    let call = c.in-ReturnCallInd.info in
    let words = ap (map as_put) (return_address_words a.frame.now a.settings.now a.inst.now c.in-ReturnCallInd.info call c.in-ReturnCallInd.is refl a.kept) in
    let known = return_address_good a.frame.now a.settings.now a.inst.now c.in-ReturnCallInd.info call c.in-ReturnCallInd.is refl c.requires.good in
    record {
      callee = known.0;
      restorable = known.2;
      good = known.1;
      can = subst (CanPut a.sink.now) words c.requires.can;
    }

pub returns-in-ReturnCallInd : goal.returns-in-ReturnCallInd
returns-in-ReturnCallInd c =
    let a = c.args in
    let call = c.in-ReturnCallInd.info in
    let words = ap (map as_put) (return_address_words a.frame.now a.settings.now a.inst.now c.in-ReturnCallInd.info call c.in-ReturnCallInd.is refl a.kept) in
    subst (PutsCells c.emit_return-in-ReturnCallInd.result a.sink.now c.emit_return-in-ReturnCallInd.new.sink) (sym words) c.emit_return-in-ReturnCallInd.ensures
