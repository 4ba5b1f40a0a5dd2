-- The types of the fields of the last loads and stores.
use Rattle.a64_base.specs.contracts.mem_flags.MemFlagsData
use Rattle.a64_base.specs.contracts.reg.Reg
use Rattle.a64_base.specs.contracts.reg.Writable
use Rattle.a64_inst.specs.contracts.mode.AMode
use Rattle.a64_base.proofs.mem_flags.MemFlagsData.TheLaws as MemFlagsData'
use Rattle.a64_base.proofs.reg.Reg.TheLaws as Reg'
use Rattle.a64_base.proofs.reg.Writable.TheLaws as Writable'
use Rattle.a64_inst.proofs.mode.AMode.TheLaws as AMode'
use Rattle.a64_inst.proofs.Late.{Kind, quiet}

abbrev pub register : Kind
register = record { ty = Reg.the_row; laws = Reg'.the_row_laws; silent = λ 𝓛 x f. quiet 0 𝓛 }

abbrev pub writable : Kind
writable = record { ty = Writable.the_row Reg.the_row; laws = Writable'.the_row_laws Reg.the_row Reg'.the_row_laws; silent = λ 𝓛 x f. quiet 0 𝓛 }

abbrev pub mode : Kind
mode = record { ty = AMode.the_row; laws = AMode'.the_row_laws; silent = λ 𝓛 x f. quiet 0 𝓛 }

abbrev pub flags : Kind
flags = record { ty = MemFlagsData.the_row; laws = MemFlagsData'.the_row_laws; silent = λ 𝓛 x f. quiet 0 𝓛 }
