-- Which answer comes, by what may not come.
use Rattle.std.proofs.Common.{◌≡◌, ◌≢◌, ℕ, ◌<◌, ◌≤◌, ◌||◌, Bool, true, false, List, [], inr, refl, sym, subst, leb-true, arith}
use Rattle.std.specs.Prelude.{nat_le, nat_lt, if◌then◌else◌, Option, Some, None}
use Rattle.masked_bytes.specs.Masked.{gives_some}
use Rattle.trace_reader.specs.Rows.{latest_tick}
use Rattle.pcm_library.specs.{Answers.{Answers, last_row, refusal_at, refusal_behind, refusal_of_bytes, refusal_of_line, refusal_of_row, refusal_of_tick}, Serving.Serving}
use Rattle.pcm_library.specs.{declared.session.Answer.Answer, declared.session.Answer.TheVariants.{Late, NoBytes, NoLine, NoMemory, TooMany}}

abbrev late_or : Bool → Option Answer → Option Answer
late_or late other = if late then Some Late else other

none-late : (late : Bool) (other : Option Answer) → late_or late None ≡ None → late_or late other ≡ other
none-late true other is = absurd (cc is)
none-late false other is = refl

some-late : (late : Bool) (other : Option Answer) (refusal : Answer) → late_or late None ≡ Some refusal → late_or late other ≡ Some refusal
some-late true other refusal is = is
some-late false other refusal is = absurd (cc is)

-- where a module may come, there is in the way what else is
pub may-come : (finished : Bool) (reached tick : ℕ) (other : Option Answer) → refusal_at finished reached tick None ≡ None → refusal_at finished reached tick other ≡ other
may-come true reached tick other is = absurd (cc is)
may-come false reached tick other is = none-late (nat_lt tick reached || nat_lt latest_tick tick) other is

-- and where it may not, nothing else counts
pub may-not : (finished : Bool) (reached tick : ℕ) (other : Option Answer) (refusal : Answer) → refusal_at finished reached tick None ≡ Some refusal → refusal_at finished reached tick other ≡ Some refusal
may-not true reached tick other refusal is = is
may-not false reached tick other refusal is = some-late (nat_lt tick reached || nat_lt latest_tick tick) other refusal is

-- behind fewer rows than can be counted one more may come
pub none-behind : (rows : ℕ) → rows < last_row → refusal_behind rows ≡ None
none-behind rows below = by (nat_le last_row rows) (leb-true last_row rows)
  where
    by : (b : Bool) → (b ≡ true → last_row ≤ rows) → (if b then Some TooMany else None) ≡ None
    by true many = absurd (let more = many refl in omega (arith, more, below))
    by false many = refl

module _ {n m e : ℕ} {S : Type 0} (s : Serving n m e S) where
  -- memory may be wanting where outcomes wait
  pub lacks-memory : (rows : ℕ) → rows < last_row → s.kept.sink.waiting ≢ [] → Answers s (refusal_behind rows) NoMemory
  lacks-memory rows below waits = subst (λ (o : Option Answer). Answers s o NoMemory) (sym (none-behind rows below)) (inr (refl, waits))

  -- the answer to a row that may come is the one behind so many, and else the refusal
  pub may-answer : (tick : ℕ) (answer : Answer) → refusal_of_tick s tick ≡ None → Answers s (refusal_behind s.kept.rows) answer → Answers s (refusal_of_row s tick) answer
  may-answer tick answer is had =
      subst (λ (o : Option Answer). Answers s o answer) (sym (may-come s.module_.finished s.module_.tick tick (refusal_behind s.kept.rows) is)) had

  pub not-answer : (tick : ℕ) (refusal : Answer) → refusal_of_tick s tick ≡ Some refusal → Answers s (refusal_of_row s tick) refusal
  not-answer tick refusal is =
      subst (λ (o : Option Answer). Answers s o refusal) (sym (may-not s.module_.finished s.module_.tick tick (refusal_behind s.kept.rows) refusal is)) refl

  -- a line that is there refuses nothing
  pub of-line : (lines line : ℕ) (other : Option Answer) (answer : Answer) → line < lines → Answers s other answer → Answers s (refusal_of_line lines line other) answer
  of-line lines line other answer below had = by (nat_le lines line) (leb-true lines line)
    where
      by : (b : Bool) → (b ≡ true → lines ≤ line) → Answers s (if b then Some NoLine else other) answer
      by true none = absurd (let above = none refl in omega (arith, above, below))
      by false none = had

  pub of-bytes : (given : List Bool) (other : Option Answer) (answer : Answer) → gives_some given ≡ true → Answers s other answer → Answers s (refusal_of_bytes given other) answer
  of-bytes given other answer some had = subst (λ (b : Bool). Answers s (if b then other else Some NoBytes) answer) (sym some) had
