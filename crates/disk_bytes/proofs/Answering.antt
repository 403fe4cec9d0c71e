-- Answers of a disk to its requests.
use Rattle.std.proofs.Common.{◌≡◌, ℕ, ◌+◌, ◌≤◌, List, [], ◌∷◌, ◌++◌, length, refl, sym, ◌∙◌, subst, arith, inl, inr, Some, None}
use Rattle.std.proofs.lemmas.Bool.{cases_eq, cases_lt, eq-eqb, ne_eqb, cond-true, cond-false, lt-ltb}
use Rattle.atomic_sectors.specs.{Lines.{Write as LineWrite, stand}, declared.layout.Layout.Layout}
use Rattle.disk_rules.specs.{Disk.{Written, IsDisk, refusal, refused, told}, Standing.{HoldsDisk, disk_size, sector_size}, declared.DiskAnswer.DiskAnswer}
use Rattle.disk_rules.specs.{declared.DiskRequest.DiskRequest, declared.DiskRequest.TheVariants.{Read, Write}}
use Rattle.disk_rules.specs.declared.DiskRefusal.TheVariants as why
use Rattle.disk_bytes.specs.{Parts.part, Serving.{IsServed, Reads, Writes, stops_of, stops_in}}

is_some : {A : Type 0} (a : A) → Some a ≡ None → ⊥
is_some a e = cc

-- what isn't refused is all within the disk
pub not_refused : (size at asked : ℕ) → refusal size at asked ≡ None → at + asked ≤ size
not_refused size at asked none = elim (cases_eq asked 0) [
  | inl empty ↦ absurd (is_some why.Empty (sym (cond-true _ _ _ (eq-eqb asked 0 empty)) ∙ none))
  | inr some ↦ elim (cases_lt size (at + asked)) [
    | inl outside ↦ absurd (is_some why.Outside (sym (cond-false _ _ _ (ne_eqb asked 0 some) ∙ cond-true _ _ _ (lt-ltb size (at + asked) outside)) ∙ none))
    | inr within ↦ within
  ]
]

-- one request more
pub told-more : (before : List (DiskRequest × DiskAnswer)) (requests : List DiskRequest) (answers : List DiskAnswer) (r : DiskRequest) (a : DiskAnswer) → length answers ≡ length requests
    → told before (requests ++ r ∷ []) (answers ++ a ∷ []) ≡ (r, a) ∷ told before requests answers
told-more before [] [] r a long = refl
told-more before [] (b ∷ answers) r a long = absurd (omega (arith, long))
told-more before (q ∷ requests) [] r a long = absurd (omega (arith, long))
told-more before (q ∷ requests) (b ∷ answers) r a long = told-more ((q, b) ∷ before) requests answers r a (omega (arith, long))

pub stops-more : (answers : List DiskAnswer) (a : DiskAnswer) → stops_in (answers ++ a ∷ []) ≡ stops_in answers + stops_of a
stops-more [] a = omega arith
stops-more (b ∷ answers) a = omega (arith, stops-more answers a)

module _ (n : ℕ) (layout : Layout) (r : DiskRequest) (answer : DiskAnswer) (old new : List LineWrite) where
  abbrev Step : Type 0
  Step = (asked : List (DiskRequest × DiskAnswer)) → IsServed n layout asked old → IsServed n layout ((r, answer) ∷ asked) new

  -- a read is served
  pub serves_read : (at size : ℕ) → r ≡ Read at size → new ≡ old → Reads n layout (stand n old) at size answer → Step
  serves_read at size is same reads asked served =
      let writes = served.0 in (
        writes,
        record {
          answers = subst (λ (q : DiskRequest). IsDisk (disk_size n layout) (sector_size n layout) ((q, answer) ∷ asked) writes) (sym is)
              (reads.refused, reads.right writes served.1.lines, served.1.answers);
          lines = subst (λ (ws : List LineWrite). HoldsDisk n layout (stand n ws) writes) (sym same) served.1.lines;
        },
      )

  -- a write is served
  pub serves_write : (at : ℕ) (bytes : _) (slice : List ℕ) → r ≡ Write at bytes → slice ≡ bytes.items
      → ((before : List Written) → HoldsDisk n layout (stand n old) before → Writes n layout (stand n new) at slice before answer) → Step
  serves_write at bytes slice is slice_is writes asked served =
      let made = writes served.0 served.1.lines in (
        part at slice made.done ∷ served.0,
        record {
          answers = subst (λ (q : DiskRequest). IsDisk (disk_size n layout) (sector_size n layout) ((q, answer) ∷ asked) (part at slice made.done ∷ served.0)) (sym is)
              (subst (λ (bs : List ℕ). refused answer ≡ refusal (disk_size n layout) at (length bs)) slice_is made.refused, refl, slice_is, made.made, served.1.answers);
          lines = made.holds;
        },
      )

pub length-more : {A : Type 0} (xs : List A) (x : A) → length (xs ++ x ∷ []) ≡ length xs + 1
length-more [] x = refl
length-more (y ∷ xs) x = omega (arith, length-more xs x)
