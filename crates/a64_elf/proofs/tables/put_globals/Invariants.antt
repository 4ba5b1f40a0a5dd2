use Rattle.std.proofs.Common.{◌≡◌, ◌++◌, length, drop}
use Rattle.std.specs.List.{flat_map}
use Rattle.a64_elf.specs.Symbols.{global_entries, global_named}
use Rattle.a64_elf.proofs.tables.put_globals.Given as goal

-- what stands, with what the symbols that are left give, is what all give
abbrev pub invariant-loop-global : goal.invariant-loop-global
invariant-loop-global l = record {
  entries :
      l.symbols.items ++ global_entries (length l.names.items) (drop l.global-index l.globals)
      ≡ l.fn.symbols.items ++ global_entries (length l.fn.names.items) l.globals;
  names :
      l.names.items ++ flat_map global_named (drop l.global-index l.globals)
      ≡ l.fn.names.items ++ flat_map global_named l.globals;
}
