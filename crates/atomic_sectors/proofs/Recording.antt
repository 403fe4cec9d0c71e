-- Lines that keep every write.
use Rattle.std.proofs.Common.{◌≡◌, ℕ, ◌+◌, ◌<◌, List, [], ◌∷◌, ◌++◌, length, take, get_or, refl, sym, ◌∙◌, ap}
use Rattle.std.proofs.lemmas.List.{take_more}
use Rattle.atomic_sectors.specs.{Lines.Write, Recorded.{write_of, behind}, declared.recorded.Put.Put}

module _ {n : ℕ} where
  pub behind-push : (before : List Write) (puts : List (Put n)) (p : Put n) → behind before (puts ++ p ∷ []) ≡ write_of p ∷ behind before puts
  behind-push before [] p = refl
  behind-push before (q ∷ puts) p = behind-push (write_of q ∷ before) puts p

  -- one write more is looked at
  pub behind_more : (puts : List (Put n)) (i : ℕ) (p : Put n) → i < length puts → p ≡ get_or puts i p → write_of p ∷ behind [] (take i puts) ≡ behind [] (take (i + 1) puts)
  behind_more puts i p within is =
      sym (ap (behind []) (take_more puts i p within ∙ ap (λ q. take i puts ++ q ∷ []) (sym is)) ∙ behind-push [] (take i puts) p)
