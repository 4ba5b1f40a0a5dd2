use Rattle.std.proofs.Common.{ℕ, ◌≡◌, Bool, true, false, cond, List, sym, ◌∙◌, ap, nat_cmp}
use Rattle.std.specs.Prelude.{is_some, not}
use Rattle.std.specs.FinMap.{FinMap, get, insert, contains_key}
use Rattle.a64_buffer.specs.declared.content.Content.{Content}
use Rattle.a64_buffer.specs.Constants.{content_bytes, contents_bytes}
use Rattle.a64_buffer.proofs.Contents.{bytes_more, some_bytes}
use Rattle.a64_buffer.proofs.constants.Constants.insert.Goals as goal

-- whether a number has a constant
there : (contents : FinMap nat_cmp Content) (m : FinMap nat_cmp (List ℕ)) (number : ℕ) (known t : Bool) → contents_bytes contents ≡ m → known ≡ contains_key contents number → known ≡ t → is_some (get m number) ≡ t
there contents m number known t view has is = ap (λ n. is_some (get n number)) (sym view) ∙ (some_bytes contents number ∙ (sym has ∙ is))

-- contents with one more
more : (contents contents' : FinMap nat_cmp Content) (number : ℕ) (content : Content) (bytes : List ℕ) → contents' ≡ insert contents number content → content_bytes content ≡ bytes → contents_bytes contents' ≡ insert (contents_bytes contents) number bytes
more contents contents' number content bytes is same =
    ap contents_bytes is ∙ (bytes_more contents number content ∙ ap (insert (contents_bytes contents) number) same)

pub returns-then-contains-clause-answer : goal.returns-then-contains-clause-answer
returns-then-contains-clause-answer c =
    sym (ap not (there c.self.inside.contents c.args.self.now c.args.constant.0 c.contains.result true c.self.view_is c.contains.ensures c.if-contains.true))

pub returns-then-contains-clause-ok : goal.returns-then-contains-clause-ok
returns-then-contains-clause-ok c =
    sym (ap (λ t. cond t c.args.self.now (insert c.args.self.now c.args.constant.0 c.args.bytes.now)) (there c.self.inside.contents c.args.self.now c.args.constant.0 c.contains.result true c.self.view_is c.contains.ensures c.if-contains.true))

pub returns-clause-answer : goal.returns-clause-answer
returns-clause-answer c =
    sym (ap not (there c.self.inside.contents c.args.self.now c.args.constant.0 c.contains.result false c.self.view_is c.contains.ensures c.if-contains.false))

pub returns-clause-ok : goal.returns-clause-ok
returns-clause-ok c =
    more c.self.inside.contents c.insert.new.self c.args.constant.0 c.new.result c.args.bytes.now c.in_ok-insert.ensures.ok c.new.ensures
    ∙ (ap (λ m. insert m c.args.constant.0 c.args.bytes.now) c.self.view_is
    ∙ sym (ap (λ t. cond t c.args.self.now (insert c.args.self.now c.args.constant.0 c.args.bytes.now)) (there c.self.inside.contents c.args.self.now c.args.constant.0 c.contains.result false c.self.view_is c.contains.ensures c.if-contains.false)))
