-- The lines of a disk stand by the rows of its module.
use Rattle.std.proofs.Common.{◌≡◌, ℕ, ◌<◌, ◌==◌, ◌&&◌, Bool, true, false, cond, List, [], ◌∷◌, length, refl, sym, ap, ◌∙◌, subst, arith, inl, inr}
use Rattle.std.proofs.{lemmas.Bool.{cases_eq, eq-eqb, ne_eqb}, lemmas.List.length-replicate}
use Rattle.masked_bytes.{specs.Masked.{gives_some, laid}, proofs.Layering.length-laid, proofs.Truth.{and_true, and_false}}
use Rattle.trace_reader.specs.declared.event.EventOp.{EventOp}
use Rattle.bank_laws.specs.Outcomes.{ended}
use Rattle.row_rules.specs.{Answers.accepts, Rows.{accepted_of, bytes_of, given_of, newest}, declared.Row.Row}
use Rattle.module_shape.specs.{Limits.{IsShape, total_of}, declared.raw.RawShape.RawShape}
use Rattle.pcm_module.specs.State.{ModuleState}
use Rattle.atomic_sectors.specs.{Lines.stand, declared.recorded.Put.Put}
use Rattle.disk_lines.specs.{Asking.{IsLater, IsWriteOf, LaysOver, SameLines, TakesRow, rows_heard}, Hearing.Hearing, Lines.{StandsByRows, writes_of}, Places.place_of}
use Rattle.disk_lines.{specs.declared.watch.Heard.Heard, proofs.Placing.{place-apart, place-exists}}

-- a line has so many bytes
pub length-newest : {n : ℕ} (rows : List (Row n)) (line : ℕ) → length (newest rows line) ≡ n
length-newest {n} [] line = length-replicate n 0
length-newest {n} (r ∷ rows) line = by (accepted_of line r) (length-newest rows line)
  where
    by : (own : Bool) → length (newest rows line) ≡ n → length (cond own (laid (bytes_of r.asks) (given_of r.asks) (newest rows line)) (newest rows line)) ≡ n
    by true ih = length-laid (bytes_of r.asks) (given_of r.asks) (newest rows line) ∙ ih
    by false ih = ih

-- bytes of which none is given change nothing
pub laid-none : (bytes : List ℕ) (given : List Bool) (under : List ℕ) → length given ≡ length bytes → length under ≡ length bytes → gives_some given ≡ false → laid bytes given under ≡ under
laid-none [] given under long also none = refl
laid-none (b ∷ bytes) [] under long also none = refl
laid-none (b ∷ bytes) (true ∷ given) under long also none = absurd (cc none)
laid-none (b ∷ bytes) (false ∷ given) [] long also none = absurd (omega arith)
laid-none (b ∷ bytes) (false ∷ given) (u ∷ under) long also none = ap (λ (xs : List ℕ). u ∷ xs) (laid-none bytes given under (omega arith) (omega arith) none)

module _ {n m e : ℕ} (old new : ModuleState n m e) (is : IsShape old.shape) (was now : List (Heard n)) (puts : List (Put n)) (later : IsLater old new was now) (stands : StandsByRows old was puts) where
  -- at a module of the same sizes and the same seed
  moved : (more : List (Put n)) → ((line : ℕ) → line < total_of old.shape → stand n (writes_of more) line ≡ newest (rows_heard now) (place_of old.shape old.seed line))
      → StandsByRows new now more
  moved more had =
      subst (λ (s : ℕ). (line : ℕ) → line < total_of new.shape → stand n (writes_of more) line ≡ newest (rows_heard now) (place_of new.shape s line)) (sym later.seed)
      (subst (λ (raw : RawShape). (line : ℕ) → line < total_of raw → stand n (writes_of more) line ≡ newest (rows_heard now) (place_of raw old.seed line)) (sym later.shape) had)

  -- where no line changed
  pub stands-same : SameLines old new was now → StandsByRows new now puts
  stands-same same = moved puts (λ line exists. stands line exists ∙ sym (same (place_of old.shape old.seed line) (place-exists old.shape old.seed is line exists)))

  -- and where a write was made
  pub stands-put : (p : Put n) → p.line < total_of old.shape → LaysOver old new (place_of old.shape old.seed p.line) p.bytes p.given was now → StandsByRows new now (p ∷ puts)
  stands-put p there lays = moved (p ∷ puts) (λ line exists.
      let at = place_of old.shape old.seed line in
      let own : (p.line == line) ≡ (place_of old.shape old.seed p.line == at) = same-line line exists in
      ap (λ (b : Bool). cond b (laid p.bytes p.given (stand n (writes_of puts) line)) (stand n (writes_of puts) line)) own
      ∙ ap (λ (xs : List ℕ). cond (place_of old.shape old.seed p.line == at) (laid p.bytes p.given xs) xs) (stands line exists)
      ∙ sym (lays at (place-exists old.shape old.seed is line exists)))
    where
      same-line : (line : ℕ) → line < total_of old.shape → (p.line == line) ≡ (place_of old.shape old.seed p.line == place_of old.shape old.seed line)
      same-line line exists = elim (cases_eq p.line line) [
        | inl same ↦ eq-eqb p.line line same ∙ sym (eq-eqb (place_of old.shape old.seed p.line) (place_of old.shape old.seed line) (ap (place_of old.shape old.seed) same))
        | inr other ↦
            ne_eqb p.line line other
            ∙ sym (ne_eqb (place_of old.shape old.seed p.line) (place_of old.shape old.seed line) (λ same. other (place-apart old.shape old.seed is p.line line there exists same)))
      ]

-- where no byte is given, nothing is laid over
pub lays-none : {n m e : ℕ} (old : ModuleState n m e) (heard : List (Heard n)) (place : ℕ) (bytes : List ℕ) (given : List Bool) → length bytes ≡ n → length given ≡ n → gives_some given ≡ false
    → LaysOver old old place bytes given heard heard
lays-none old heard place bytes given long whole none line exists =
    sym (either (place == line) (laid-none bytes given (newest (rows_heard heard) line) (whole ∙ sym long) (length-newest (rows_heard heard) line ∙ sym long) none))
  where
    either : (own : Bool) → laid bytes given (newest (rows_heard heard) line) ≡ newest (rows_heard heard) line
        → cond own (laid bytes given (newest (rows_heard heard) line)) (newest (rows_heard heard) line) ≡ newest (rows_heard heard) line
    either true is = is
    either false is = refl

-- a write lays its bytes over those of its line where it is accepted
module _ {n m e : ℕ} (old mid new : ModuleState n m e) (was : List (Heard n)) (out hear : Hearing n) (later : IsLater old mid was out.heard) (same : SameLines old mid was out.heard)
    (tick : ℕ) (op : EventOp n) (takes : TakesRow mid new (record { tick = tick; op = op }) out hear) (place : ℕ) (bytes : List ℕ) (given : List Bool) (write : IsWriteOf place bytes given op) where
  written : (line : ℕ) → line < total_of old.shape
      → newest (rows_heard hear.heard) line ≡ cond ((place == line) && accepts (ended tick hear.last)) (laid bytes given (newest (rows_heard was) line)) (newest (rows_heard was) line)
  written line exists =
      takes.newest line (subst (λ (raw : RawShape). line < total_of raw) (sym later.shape) exists)
      ∙ write.lays tick line hear.last (newest (rows_heard out.heard) line) (length-newest (rows_heard out.heard) line)
      ∙ ap (λ (xs : List ℕ). cond ((place == line) && accepts (ended tick hear.last)) (laid bytes given xs) xs) (same line exists)

  pub lays-accepted : accepts (ended tick hear.last) ≡ true → LaysOver old new place bytes given was hear.heard
  lays-accepted took line exists =
      written line exists
      ∙ ap (λ (b : Bool). cond b (laid bytes given (newest (rows_heard was) line)) (newest (rows_heard was) line)) (ap (λ (t : Bool). (place == line) && t) took ∙ and_true (place == line))

  pub same-refused : accepts (ended tick hear.last) ≡ false → SameLines old new was hear.heard
  same-refused not line exists =
      written line exists
      ∙ ap (λ (b : Bool). cond b (laid bytes given (newest (rows_heard was) line)) (newest (rows_heard was) line)) (ap (λ (t : Bool). (place == line) && t) not ∙ and_false (place == line))
