use Rattle.std.proofs.Common.{◌≡◌, ◌++◌, ◌+◌, ◌*◌, length, ◌∙◌, ap, arith}
use Rattle.a64_buffer.proofs.Veneers.{far_of, far_size}
use Rattle.a64_words.proofs.WordLists.{far_words_are, zero_word, zeros_length}
use Rattle.a64_buffer.proofs.give.push_far_words.Goals as goal

pub returns-clause-items : goal.returns-clause-items
returns-clause-items g c =
    let r = g.K.MachInstLabelUse.kinds in
    let veneer = far_of g.K.MachInstLabelUse.kinds c.args.kind c.args.place _ c.generate_veneer-last.new.buffer c.generate_veneer-last.result c.requires.urgency c.generate_veneer-last.ensures in
    let size : c.veneer_size.result ≡ 4 * length g.K.MachInstLabelUse.kinds.far_words + 4 = c.veneer_size.ensures ∙ far_size g.K.MachInstLabelUse.kinds c.args.kind c.requires.urgency in
    let few = g.met.K.MachInstLabelUse.lawful.far_length in
    c.extend_reserved.ensures.items
    ∙ ap (λ ws. c.args.words.now.items ++ ws)
    (far_words_are g.K.MachInstLabelUse.kinds.far_words c.generate_veneer-last.new.buffer (omega (arith, c.generate_veneer-last.auto.buffer, size, few, zeros_length c.veneer_size.result (omega (arith, size, few)))) veneer.words (veneer.last ∙ zero_word (length g.K.MachInstLabelUse.kinds.far_words) c.veneer_size.result few size))
