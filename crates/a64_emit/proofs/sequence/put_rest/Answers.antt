use Rattle.std.proofs.Common.{◌≡◌, List, [], ◌∷◌, ◌++◌, Option, None, sym, ap, subst}
use Rattle.std.specs.Prelude.{IfSome}
use Rattle.a64_cells.specs.Shapes.{Cell}
use Rattle.a64_cells.specs.declared.site.Site.{Site}
use Rattle.a64_cells.specs.declared.word.exclusive.LoopWords.{LoopWords}
use Rattle.a64_cells.specs.Words.{MayBePut, put_cell, put_cells, put_rest}
use Rattle.a64_emit.proofs.Behind.{begun_before, can_before, can_behind, puts_behind}
use Rattle.a64_emit.proofs.sequence.put_rest.Goals as goal

-- the store with the words before it, and behind it the branch
abbrev stored : LoopWords → List Cell
stored words = put_cells words.store.first.items words.store.last words.store.site words.store.trap

abbrev back : LoopWords → List Cell
back words = put_cell words.back None None ∷ []

parts : (words : LoopWords) → words.store.site ≡ None → put_rest words ≡ stored words ++ back words
parts words none = ap (λ (site : Option Site). put_cells words.store.first.items words.store.last site words.store.trap ++ back words) (sym none)

pub emit_several-requires : goal.emit_several-requires
emit_several-requires c =
    let words = c.args.words.now in
    record {
      lawful = subst (λ (site : Option Site). IfSome site (MayBePut c.args.sink.now.constants)) (sym c.requires.site) tt;
      can = can_before c.args.sink.now (stored words) (back words) (put_rest words) (parts words c.requires.site) c.requires.can;
    }

pub returns-in_err-emit_several : goal.returns-in_err-emit_several
returns-in_err-emit_several c =
    let words = c.args.words.now in
    begun_before c.args.sink.now (stored words) (back words) (put_rest words) (parts words c.requires.site) c.from_residual.result _ c.emit_several.new.sink c.from_residual.ensures.1 c.in_err-emit_several.ensures.err

pub emit_last-requires : goal.emit_last-requires
emit_last-requires c =
    let words = c.args.words.now in
    record {
      lawful = tt;
      can = can_behind c.args.sink.now (stored words) (back words) (put_rest words) (parts words c.requires.site) c.emit_several.new.sink c.in_ok-emit_several.ensures.ok c.requires.can;
    }

pub returns : goal.returns
returns c =
    let words = c.args.words.now in
    puts_behind c.args.sink.now (stored words) (back words) (put_rest words) (parts words c.requires.site) c.emit_several.new.sink c.in_ok-emit_several.ensures.ok c.emit_last.result c.emit_last.new.sink c.emit_last.ensures
