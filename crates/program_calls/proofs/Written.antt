-- How texts are written, piece after piece, and under another name.
use Rattle.std.proofs.Common.{◌≡◌, ℕ, suc, ◌+◌, ◌<◌, List, [], ◌++◌, length, get_or, drop, Bor, Option, sym, ap, ◌∙◌, arith, append_assoc}
use Rattle.std.{specs.Io.KnownBytes.Appends, specs.Prelude.{Result, Ok, Err, OnErr}, proofs.Math.Seq.drop-cons}
use Rattle.pcm_io.{specs.Giving.AppendsPrefix, proofs.ByteLemmas.{Appends-Appends, Appends-AppendsPrefix, AppendsPrefix-longer}}
use Rattle.program_calls.specs.{Calls.{SinkChange, Writes}, FaultLines.joined}

-- what was written under one name was under another
pub writes-as : {T E : Type 0} (r : Result T E) (sink : SinkChange) (xs ys : List ℕ) → xs ≡ ys → Writes xs sink r → Writes ys sink r
writes-as r sink xs ys is had = rw (← is) had

-- first bytes of a piece behind other bytes are first bytes of the whole
pub AppendsPrefix-after : (a b c : Option (List ℕ)) (gone piece rest whole : List ℕ) → (gone ++ piece) ++ rest ≡ whole → Appends a b gone → AppendsPrefix b c piece → AppendsPrefix a c whole
AppendsPrefix-after a b c gone piece rest whole is sent part =
    rw (← is) (AppendsPrefix-longer a c (gone ++ piece) rest (Appends-AppendsPrefix a b c gone piece sent part))

-- the first i texts are written, and the others are left
pub record HasWritten (parts : List (Bor (List ℕ))) (i : ℕ) (before now : Option (List ℕ)) : Type 0 where
  pub gone : List ℕ
  pub sent : Appends before now gone
  pub is : gone ++ joined (drop i parts) ≡ joined parts

joined-next : (parts : List (Bor (List ℕ))) (i : ℕ) (d : Bor (List ℕ)) → i < length parts → joined (drop i parts) ≡ (get_or parts i d).now ++ joined (drop (i + 1) parts)
joined-next parts i d within =
    let one : i + 1 ≡ suc i = omega arith in
    rw one (ap joined (drop-cons parts i d within))

pub written-more : (parts : List (Bor (List ℕ))) (i : ℕ) (d : Bor (List ℕ)) (a b c : Option (List ℕ)) → i < length parts → HasWritten parts i a b → Appends b c (get_or parts i d).now → HasWritten parts (i + 1) a c
written-more parts i d a b c within h more = record {
  gone = h.gone ++ (get_or parts i d).now;
  sent = Appends-Appends a b c h.gone (get_or parts i d).now h.sent more;
  is = append_assoc h.gone (get_or parts i d).now (joined (drop (i + 1) parts)) ∙ ap (λ (xs : List ℕ). h.gone ++ xs) (sym (joined-next parts i d within)) ∙ h.is;
}

-- at a fault within the next one, first bytes of all were
pub written-part : {T E : Type 0} (r : Result T E) (parts : List (Bor (List ℕ))) (i : ℕ) (d : Bor (List ℕ)) (a b c : Option (List ℕ)) → i < length parts → HasWritten parts i a b → AppendsPrefix b c (get_or parts i d).now → OnErr r (AppendsPrefix a c (joined parts))
written-part (Ok x) parts i d a b c within h part = tt
written-part (Err e) parts i d a b c within h part =
    AppendsPrefix-after a b c h.gone (get_or parts i d).now (joined (drop (i + 1) parts)) (joined parts)
    (append_assoc h.gone (get_or parts i d).now (joined (drop (i + 1) parts)) ∙ ap (λ (xs : List ℕ). h.gone ++ xs) (sym (joined-next parts i d within)) ∙ h.is) h.sent part
