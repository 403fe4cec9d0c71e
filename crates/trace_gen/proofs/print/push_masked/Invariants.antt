use Rattle.std.proofs.Common.{◌≡◌, ◌+◌, ◌*◌, take}
use Rattle.pcm_io.specs.Reserved.{appended, room_in}
use Rattle.trace_gen.specs.EventText.{masked_text}
use Rattle.trace_gen.proofs.print.push_masked.Given as goal

abbrev pub invariant-loop-i : goal.invariant-loop-i
invariant-loop-i g l = record {
  after : l.text ≡ appended l.initial.text (masked_text (take l.i l.bytes) (take l.i l.given));
  room : room_in l.text + 2 * l.i ≡ room_in l.initial.text;
}
