-- The settings that a file may name.
use Rattle.std.specs.Prelude.{true}
use Rattle.a64_inst.specs.declared.emission.EmitFlags.{EmitFlags}
use Rattle.a64_tokens.specs.declared.emit_flag.EmitFlag.{EmitFlag}
use Rattle.a64_tokens.specs.declared.emit_flag.EmitFlag.TheVariants as emit_flags

-- settings of which one more is true
abbrev pub flags_with : EmitFlag → EmitFlags → EmitFlags
flags_with emit_flags.EnableProbestack flags = record flags { enable_probestack = true }
flags_with emit_flags.EnableTableAccessSpectreMitigation flags = record flags {
  enable_table_access_spectre_mitigation = true;
}
flags_with emit_flags.UseCsdb flags = record flags { use_csdb = true }
