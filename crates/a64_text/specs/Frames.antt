-- The sizes of a frame.
use Rattle.std.specs.Prelude.{ℕ}
use Rattle.a64_inst.specs.declared.frame.FrameLayout.{FrameLayout}
use Rattle.a64_tokens.specs.declared.frame_field.FrameField.{FrameField}
use Rattle.a64_tokens.specs.declared.frame_field.FrameField.TheVariants as frame_fields

-- a frame with another size of one area
abbrev pub frame_with : FrameField → ℕ → FrameLayout → FrameLayout
frame_with frame_fields.SetupAreaSize bytes frame = record frame { setup_area_size = bytes }
frame_with frame_fields.TailArgsSize bytes frame = record frame { tail_args_size = bytes }
frame_with frame_fields.ClobberSize bytes frame = record frame { clobber_size = bytes }
frame_with frame_fields.FixedFrameStorageSize bytes frame = record frame {
  fixed_frame_storage_size = bytes;
}
frame_with frame_fields.OutgoingArgsSize bytes frame = record frame { outgoing_args_size = bytes }
