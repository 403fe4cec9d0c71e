-- A disk that is asked again behind each power cut.
use Rattle.std.proofs.Common.{◌≡◌, ℕ, add-one, ◌+◌, true, List, ◌∷◌, ◌++◌, refl, sym, ap, subst, replicate, arith}
use Rattle.atomic_sectors.{specs.Lines.Write, specs.Stops.RoseBy, specs.declared.layout.Layout.Layout, proofs.Stopping.rose-both}
use Rattle.atomic_sectors.specs.declared.lines.Stopped.TheVariants as why
use Rattle.disk_rules.specs.{declared.DiskAnswer.DiskAnswer, declared.DiskRequest.DiskRequest}
use Rattle.disk_rules.specs.declared.DiskAnswer.TheVariants as says
use Rattle.disk_bytes.specs.Serving.{IsServed, stops_of}
use Rattle.disk_server.specs.Exchanges.{is_cut}

-- what a power cut stopped
cut_is : (answer : DiskAnswer) → is_cut answer ≡ true → answer ≡ says.Stopped why.Cut
cut_is says.Done is = absurd cc
cut_is (says.Bytes bytes) is = absurd cc
cut_is (says.Refused reason) is = absurd cc
cut_is (says.Stopped why.Cut) is = refl
cut_is (says.Stopped why.Worn) is = absurd cc
cut_is (says.Stopped why.Ended) is = absurd cc
cut_is (says.Stopped why.Memory) is = absurd cc

module _ (n : ℕ) (layout : Layout) (request : DiskRequest) where
  -- a request was asked for so many times more, and answered so in the end
  pub record Asked (was now : List Write) (stops_was stops_now : ℕ) (cuts : ℕ) (answer : DiskAnswer) : Type 0 where
    pub answers : (earlier : List (DiskRequest × DiskAnswer)) → IsServed n layout earlier was
        → IsServed n layout ((request, answer) ∷ (replicate cuts (request, says.Stopped why.Cut) ++ earlier)) now
    pub stops : RoseBy (stops_of answer + (cuts + 0)) stops_was stops_now

  pub asked_once : (was now : List Write) (stops_was stops_now : ℕ) (answer : DiskAnswer)
      → ((earlier : List (DiskRequest × DiskAnswer)) → IsServed n layout earlier was → IsServed n layout ((request, answer) ∷ earlier) now)
      → RoseBy (stops_of answer) stops_was stops_now → Asked was now stops_was stops_now 0 answer
  asked_once was now stops_was stops_now answer served stops = record {
    answers = served;
    stops = subst (λ (k : ℕ). RoseBy k stops_was stops_now) (omega arith) stops;
  }

  -- the request that a cut stopped
  abbrev stopped : DiskRequest × DiskAnswer
  stopped = (request, says.Stopped why.Cut)

  replicate_more : (k : ℕ) → replicate (k + 1) stopped ≡ stopped ∷ replicate k stopped
  replicate_more k = rw add-one refl

  pub asked_again : (was mid now : List Write) (stops_was stops_mid stops_now cuts : ℕ) (first then : DiskAnswer) → Asked was mid stops_was stops_mid cuts first
      → is_cut first ≡ true
      → ((earlier : List (DiskRequest × DiskAnswer)) → IsServed n layout earlier mid → IsServed n layout ((request, then) ∷ earlier) now)
      → RoseBy (stops_of then) stops_mid stops_now → Asked was now stops_was stops_now (cuts + 1) then
  asked_again was mid now stops_was stops_mid stops_now cuts first then had cut served stops =
      let is : first ≡ says.Stopped why.Cut = cut_is first cut in
      let one : stops_of first ≡ 1 = ap stops_of is in
      record {
        answers = λ earlier was_served.
            subst (λ (asked : List (DiskRequest × DiskAnswer)). IsServed n layout ((request, then) ∷ (asked ++ earlier)) now) (sym (replicate_more cuts))
            (subst (λ (a : DiskAnswer). IsServed n layout ((request, then) ∷ ((request, a) ∷ (replicate cuts stopped ++ earlier))) now) is
            (served ((request, first) ∷ (replicate cuts stopped ++ earlier)) (had.answers earlier was_served)));
        stops = subst (λ (k : ℕ). RoseBy k stops_was stops_now) (omega (arith, one))
            (rose-both (stops_of first + (cuts + 0)) (stops_of then) stops_was stops_mid stops_now had.stops stops);
      }
