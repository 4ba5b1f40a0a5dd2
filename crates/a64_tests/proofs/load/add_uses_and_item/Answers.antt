use Rattle.std.proofs.Common.{◌+◌, ◌*◌, ◌++◌, length, arith, subst, sym}
use Rattle.a64_words.specs.Word.{words_of}
use Rattle.a64_buffer.specs.Grown.{IsGrown}
use Rattle.a64_words.proofs.WordLists.{words_short}
use Rattle.a64_buffer.proofs.Clients.{on_ok, grown_within, grown_room, grown_put, grown_bind, label_used}
use Rattle.a64_tests.proofs.load.add_uses_and_item.Goals as goal

pub loop-use-preserved : goal.loop-use-preserved
loop-use-preserved g c =
    grown_within g.K.MachInstLabelUse.kinds g.met.K.MachInstLabelUse.lawful 0 0 (36 * c.loop-use._use + 36) (36 * (c.loop-use._use + 1)) 1 0 c.add_use.new.buffer (omega arith) (omega arith)
    (label_used g.K.MachInstLabelUse.kinds g.met.K.MachInstLabelUse.lawful (36 * c.loop-use._use) 0 c.args.word c.args.kind c.loop-use.buffer c.add_use.new.buffer c.requires.veneers c.in_ok-add_use.ensures c.loop-use.invariant)

pub put_data-requires-clause-short : goal.put_data-requires-clause-short
put_data-requires-clause-short g c =
    let room : IsGrown g.K.MachInstLabelUse.kinds 0 (36 * c.loop-use._use + 4) 1 0 c.make_room.new.buffer = grown_room g.K.MachInstLabelUse.kinds g.met.K.MachInstLabelUse.lawful (length c.args.item.now) 0 (36 * c.loop-use._use) 1 0 c.loop-use.buffer c.make_room.new.buffer c.in_ok-make_room.ensures c.loop-use.invariant in
    omega (arith, room.short)

pub bind_label-requires : goal.bind_label-requires
bind_label-requires g c =
    let room : IsGrown g.K.MachInstLabelUse.kinds 0 (36 * c.loop-use._use + 4) 1 0 c.make_room.new.buffer = grown_room g.K.MachInstLabelUse.kinds g.met.K.MachInstLabelUse.lawful (length c.args.item.now) 0 (36 * c.loop-use._use) 1 0 c.loop-use.buffer c.make_room.new.buffer c.in_ok-make_room.ensures c.loop-use.invariant in
    rw (c.in_ok-put_data.ensures.ok) (room.unbound 0 (omega arith))

pub returns : goal.returns
returns g c =
    let room : IsGrown g.K.MachInstLabelUse.kinds 0 (36 * c.loop-use._use + 4) 1 0 c.make_room.new.buffer = grown_room g.K.MachInstLabelUse.kinds g.met.K.MachInstLabelUse.lawful (length c.args.item.now) 0 (36 * c.loop-use._use) 1 0 c.loop-use.buffer c.make_room.new.buffer c.in_ok-make_room.ensures c.loop-use.invariant in
    let put : IsGrown g.K.MachInstLabelUse.kinds 0 10000 1 0 c.put_data.new.self = subst (IsGrown g.K.MachInstLabelUse.kinds 0 10000 1 0) (sym c.in_ok-put_data.ensures.ok)
    (grown_within g.K.MachInstLabelUse.kinds g.met.K.MachInstLabelUse.lawful 0 0 (36 * c.loop-use._use + 4 + 4 * length (words_of c.args.item.now)) 10000 1 0 (record c.make_room.new.buffer { words = c.make_room.new.buffer.words ++ words_of c.args.item.now }) (omega arith) (omega (arith, words_short c.args.item.now))
    (grown_put g.K.MachInstLabelUse.kinds g.met.K.MachInstLabelUse.lawful 0 (36 * c.loop-use._use + 4) 1 0 (words_of c.args.item.now) c.make_room.new.buffer room)) in
    on_ok c.bind_label.result _ _ (λ h. subst (IsGrown g.K.MachInstLabelUse.kinds 0 10000 1 1) (sym h) (grown_bind g.K.MachInstLabelUse.kinds g.met.K.MachInstLabelUse.lawful 0 10000 1 0 c.put_data.new.self put)) c.bind_label.ensures.ok
