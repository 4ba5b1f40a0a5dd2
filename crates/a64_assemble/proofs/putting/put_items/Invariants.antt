use Rattle.std.proofs.Common.{◌≡◌, ◌≤◌, length, vec_len, vec_capacity}
use Rattle.a64_buffer.specs.Buffer.{end_of}
use Rattle.a64_assemble.specs.Elements.{elements_of}
use Rattle.a64_assemble.specs.Made.{HasPutFirst}
use Rattle.a64_assemble.proofs.putting.put_items.Given as goal

-- the items so far were put; the frame and the constants are as they were, the next place is the end, and there is
-- memory for the places of all items
abbrev pub invariant-loop-index : goal.invariant-loop-index
invariant-loop-index l = record {
  frame : l.state.frame ≡ l.fn.state.frame;
  constants : l.buffer.constants ≡ l.fn.buffer.constants;
  place : l.place ≡ end_of l.buffer;
  count : vec_len l.places ≡ l.index;
  room : length l.items ≤ vec_capacity l.places;
  first : HasPutFirst l.how.force (elements_of l.fn.state.frame l.how.info.now l.items) l.index l.places.items l.buffer;
}
