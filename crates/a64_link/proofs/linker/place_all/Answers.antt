use Rattle.std.proofs.Common.{ℕ, ◌*◌, List, length, map, ap, subst, ◌∙◌, sym, arith, All}
use Rattle.std.specs.FinMap.{entries}
use Rattle.a64_link.specs.Lists.{MayStand, placed_by}
use Rattle.a64_link.specs.Linking.{IsPlan, AreLinked}
use Rattle.a64_link.specs.Linked.{all_thunks}
use Rattle.a64_link.proofs.Once.{once_of, not_large}
use Rattle.a64_link.proofs.SymbolList.{symbols_ordered, symbols_listed, entries_stand}
use Rattle.a64_link.proofs.ThunkList.{thunks_ordered}
use Rattle.a64_link.proofs.Thunks.{somewhere}
use Rattle.a64_link.proofs.Arrives.{calls_arrive}
use Rattle.a64_link.proofs.linker.place_all.Goals as goal

pub list_symbols-requires : goal.list_symbols-requires
list_symbols-requires c =
    let units = c.args.units.now in
    let plan : IsPlan units c.in_ok-sums.sums.items c.args.symbols.now c.in_ok-starts.starts.items = record { sums_are = c.in_ok-sums.ensures.ok; symbols_are = c.requires.symbols; starts_are = c.in_ok-starts.ensures; linkable = c.requires.linkable } in
    subst (λ (starts : List ℕ). All (λ e. MayStand starts e.1) (entries c.args.symbols.now)) (sym c.deref-4.ensures.value)
    (entries_stand units c.args.symbols.now c.in_ok-starts.starts.items c.args.base c.in_ok-sums.sums.items plan)

pub returns-clause-linked : goal.returns-clause-linked
returns-clause-linked c =
    let units = c.args.units.now in
    let starts = c.in_ok-starts.starts.items in
    let faultless = not_large units c.in_ok-sums.sums.items c.in_ok-sums.ensures.ok c.requires.faultless in
    let once = once_of units faultless in
    let linked = subst (λ (s : List ℕ). AreLinked units c.args.base s c.in_ok-words.words.items (length units)) c.deref-3.ensures.value c.in_ok-words.ensures in
    let list = c.in_ok-symbols_list.ensures ∙ ap (λ (s : List ℕ). map (placed_by s) (entries c.args.symbols.now)) c.deref-4.ensures.value in
    let thunks = c.in_ok-thunks.ensures ∙ ap (all_thunks units) c.deref-6.ensures.value in
    record {
      faultless = faultless;
      once = once;
      starts = c.in_ok-starts.ensures;
      words = linked;
      symbols_ordered = symbols_ordered c.args.symbols.now starts c.in_ok-symbols_list.symbols_list.items list;
      symbols = symbols_listed units c.args.symbols.now starts c.requires.symbols once c.in_ok-symbols_list.symbols_list.items list;
      thunks = thunks;
      thunks_ordered = thunks_ordered units starts c.in_ok-starts.ensures c.in_ok-thunks.thunks.items thunks;
      everything = λ q lt. somewhere units starts (length units) (omega arith) (4 * q) (omega (arith, linked.long));
    }

pub returns-clause-calls : goal.returns-clause-calls
returns-clause-calls c =
    let units = c.args.units.now in
    let plan : IsPlan units c.in_ok-sums.sums.items c.args.symbols.now c.in_ok-starts.starts.items = record { sums_are = c.in_ok-sums.ensures.ok; symbols_are = c.requires.symbols; starts_are = c.in_ok-starts.ensures; linkable = c.requires.linkable } in
    let linked = subst (λ (s : List ℕ). AreLinked units c.args.base s c.in_ok-words.words.items (length units)) c.deref-3.ensures.value c.in_ok-words.ensures in
    calls_arrive units c.args.base c.in_ok-sums.sums.items c.args.symbols.now
    (record { words = c.in_ok-words.words; starts = c.in_ok-starts.starts; symbols = c.in_ok-symbols_list.symbols_list; thunks = c.in_ok-thunks.thunks })
    plan (not_large units c.in_ok-sums.sums.items c.in_ok-sums.ensures.ok c.requires.faultless) linked
    (c.in_ok-thunks.ensures ∙ ap (all_thunks units) c.deref-6.ensures.value)
