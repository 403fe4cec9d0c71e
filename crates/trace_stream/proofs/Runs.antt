-- How a whole streamed trace is read, one row after the other.
use Rattle.std.proofs.Common.{◌≡◌, ℕ, List, [], ◌∷◌, ◌++◌, Bool, Some, None, refl, sym, ap, ◌∙◌, append_assoc}
use Rattle.std.{specs.Prelude.{Result, Ok, Err}, proofs.lemmas.List.append-nil}
use Rattle.trace_stream.specs.{Arrived.{Comes, StaysEnded}, Stream.{AsksNext, HasFault, HasFront, Opens, Standing, asked_before, asked_from, front_from, front_of, stream_of}}
use Rattle.trace_stream.{specs.declared.asked.Asked.Asked, specs.declared.fault.StreamFault.StreamFault, proofs.Steps.comes-back}

-- what was asked in front of what is still asked
abbrev pub after_asked : {n : ℕ} → List (Asked n) → Result (List (Asked n)) StreamFault → Result (List (Asked n)) StreamFault
after_asked all (Ok behind) = Ok (all ++ behind)
after_asked all (Err fault) = Err fault

after-nothing : {n : ℕ} (r : Result (List (Asked n)) StreamFault) → r ≡ after_asked [] r
after-nothing (Ok behind) = refl
after-nothing (Err fault) = refl

after-one : {n : ℕ} (all : List (Asked n)) (asked : Asked n) (r : Result (List (Asked n)) StreamFault) → after_asked all (asked_before asked r) ≡ after_asked (all ++ (asked ∷ [])) r
after-one all asked (Ok behind) = ap Ok (sym (append_assoc all (asked ∷ []) behind))
after-one all asked (Err fault) = refl

-- of a text that begins with these bytes, this was asked, and the rest is asked from here on
pub record HasAsked (n lines : ℕ) (bytes : List ℕ) (all : List (Asked n)) (now : Standing) : Type 0 where
  pub same : (more : List ℕ) → Comes now.arrived.ended more → stream_of n lines (bytes ++ more) ≡ after_asked all (asked_from n now more)
  pub front : (more : List ℕ) → Comes now.arrived.ended more → front_of n lines (bytes ++ more) ≡ all ++ front_from n now more

pub asked-first : (n lines : ℕ) (bytes : List ℕ) (now : Standing) → Opens lines bytes now → HasAsked n lines bytes [] now
asked-first n lines bytes now opens = record {
  same = λ more comes. (opens n more comes).0 ∙ after-nothing (asked_from n now more);
  front = λ more comes. (opens n more comes).1;
}

pub asked-more : (n lines : ℕ) (bytes xs : List ℕ) (all : List (Asked n)) (asked : Asked n) (old new : Standing) → HasAsked n lines bytes all old
    → StaysEnded old.arrived.ended xs new.arrived.ended → AsksNext old xs (Some asked) new → HasAsked n lines (bytes ++ xs) (all ++ (asked ∷ [])) new
asked-more n lines bytes xs all asked old new h stays asks = record {
  same = λ more comes.
      ap (stream_of n lines) (append_assoc bytes xs more)
      ∙ h.same (xs ++ more) (comes-back old.arrived.ended new.arrived.ended xs more stays comes)
      ∙ ap (after_asked all) (asks more comes).0
      ∙ after-one all asked (asked_from n new more);
  front = λ more comes.
      ap (front_of n lines) (append_assoc bytes xs more)
      ∙ h.front (xs ++ more) (comes-back old.arrived.ended new.arrived.ended xs more stays comes)
      ∙ ap (λ (rest : List (Asked n)). all ++ rest) (asks more comes).1
      ∙ sym (append_assoc all (asked ∷ []) (front_from n new more));
}

pub asked-all : (n lines : ℕ) (bytes xs : List ℕ) (all : List (Asked n)) (old new : Standing) → HasAsked n lines bytes all old
    → StaysEnded old.arrived.ended xs new.arrived.ended → AsksNext {n = n} old xs None new → stream_of n lines (bytes ++ xs) ≡ Ok all
asked-all n lines bytes xs all old new h stays asks =
    let comes : Comes old.arrived.ended xs = λ ended. (stays ended).0 in
    h.same xs comes ∙ ap (after_asked all) asks.0 ∙ ap Ok (append-nil all)

pub asked-faulty : (n lines : ℕ) (bytes xs : List ℕ) (all : List (Asked n)) (old : Standing) (e : StreamFault) (ended : Bool) → HasAsked n lines bytes all old
    → StaysEnded old.arrived.ended xs ended → HasFault (asked_from n old) xs e ended → HasFault (stream_of n lines) (bytes ++ xs) e ended
asked-faulty n lines bytes xs all old e ended h stays faulty = λ more comes.
    ap (stream_of n lines) (append_assoc bytes xs more)
    ∙ h.same (xs ++ more) (comes-back old.arrived.ended ended xs more stays comes)
    ∙ ap (after_asked all) (faulty more comes)

-- behind what was asked stands the fault
pub asked-front : (n lines : ℕ) (bytes xs : List ℕ) (all : List (Asked n)) (old : Standing) (ended : Bool) → HasAsked n lines bytes all old
    → StaysEnded old.arrived.ended xs ended → HasFront (front_from n old) xs [] ended → HasFront (front_of n lines) (bytes ++ xs) all ended
asked-front n lines bytes xs all old ended h stays none = λ more comes.
    ap (front_of n lines) (append_assoc bytes xs more)
    ∙ h.front (xs ++ more) (comes-back old.arrived.ended ended xs more stays comes)
    ∙ ap (λ (rest : List (Asked n)). all ++ rest) (none more comes)
    ∙ append-nil all
