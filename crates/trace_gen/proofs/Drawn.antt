-- How the events of a generated trace are drawn one by one.
use Rattle.std.proofs.Common.{◌≡◌, ℕ, suc, ◌+◌, ◌-◌, ◌%◌, ◌<◌, [], ◌∷◌, refl, sym, arith}
use Rattle.rand_core.specs.Stream.{Stream, next_u64}
use Rattle.trace_reader.specs.declared.event.EventOp.{EventOp}
use Rattle.trace_gen.specs.{Generated.{event_drawn, events_drawn, op_drawn}, declared.mix.Mix.Mix}

-- no event more
pub left-none : (n lines : ℕ) (mix : Mix) (rows done before : ℕ) (left : Stream) → done ≡ rows → events_drawn n lines mix (rows - done) done before left ≡ []
unfolding events_drawn
left-none n lines mix rows done before left all =
    let none : rows - done ≡ 0 = omega arith in
    rw none refl

-- one event more: its word, its tick, and what happens
pub left-more : (n lines : ℕ) (mix : Mix) (rows done before tick word : ℕ) (left behind after : Stream) (op : EventOp n)
    → done < rows → (word, behind) ≡ next_u64 left → tick ≡ before + word % (mix.step + 1) → (op, after) ≡ op_drawn n lines mix (done + 1) behind
    → events_drawn n lines mix (rows - done) done before left ≡ record { tick = tick; op = op } ∷ events_drawn n lines mix (rows - (done + 1)) (done + 1) tick after
unfolding events_drawn event_drawn
left-more n lines mix rows done before tick word left behind after op some first rises then =
    let more : rows - done ≡ suc (rows - (done + 1)) = omega arith in
    let next : done + 1 ≡ suc done = omega arith in
    let drawn : op_drawn n lines mix (suc done) behind ≡ (op, after) = rw next at (sym then) in
    rw (more, next, ← first, drawn, rises) refl
