-- The ticks of cuts, drawn and listed.
use Rattle.std.proofs.Common.{◌≡◌, ℕ, suc, ◌+◌, ◌*◌, ◌-◌, ◌%◌, ◌<◌, ◌≤◌, ◌==◌, List, [], ◌∷◌, ◌++◌, Option, Some, None, Bor, Vec, Result, Ok, map, drop, length, get_or, refl, sym, ap, subst, ◌∙◌, arith, append_assoc}
use Rattle.std.{specs.Int.{w64, to_le_bytes, from_le_bytes}, specs.List.slice_split, specs.Prelude.IfOk, proofs.Math.Seq.drop-cons, proofs.lemmas.Nat.mod_below}
use Rattle.rand_core.specs.{Steps.stream_of, Stream.{Stream, next_u64}}
use Rattle.rand_xoshiro.specs.SplitMix64.{splitmix_steps}
use Rattle.clap.specs.Words.{Text}
use Rattle.command_line.specs.Options.{with_some}
use Rattle.disk_words.specs.{Cuts.{drawn, later, listed, rising, ticks_drawn}, declared.cuts.DrawnCuts.DrawnCuts}

-- none is drawn yet
pub drawn-none : (cuts : DrawnCuts) (items : List ℕ) (state : ℕ) → items ≡ [] → state ≡ from_le_bytes w64 (to_le_bytes w64 cuts.seed)
    → drawn cuts ≡ items ++ ticks_drawn (cuts.count - 0) cuts.every 0 (stream_of splitmix_steps state)
drawn-none cuts items state none seeded =
    let all : cuts.count - 0 ≡ cuts.count = omega arith in
    rw (none, all, seeded) refl

-- a tick is near the one before
pub near : (tick count done every word : ℕ) → tick ≤ 549755813888 * done → 1 ≤ every → every ≤ 274877906944
    → tick + (1 + word % (2 * every)) ≤ 549755813888 * (done + 1)
near tick count done every word early some close =
    let rest : word % (2 * every) < 2 * every = mod_below word (2 * every) (omega (arith, some)) in
    omega (arith, early, rest, close)

pub fits : (tick done every word count : ℕ) → tick ≤ 549755813888 * done → done < count → count ≤ 1000000 → 1 ≤ every → every ≤ 274877906944
    → tick + (1 + word % (2 * every)) < 18446744073709551616
fits tick done every word count early within few some close =
    let next : tick + (1 + word % (2 * every)) ≤ 549755813888 * (done + 1) = near tick count done every word early some close in
    omega (arith, next, within, few)

-- one tick more is drawn
drawn-one : (more every before : ℕ) (left : Stream) (items : List ℕ)
    → items ++ ticks_drawn (suc more) every before left
    ≡ (items ++ (before + (1 + (next_u64 left).0 % (2 * every))) ∷ []) ++ ticks_drawn more every (before + (1 + (next_u64 left).0 % (2 * every))) (next_u64 left).1
drawn-one more every before left items = sym (append_assoc items _ _)

pub drawn-next : (whole : List ℕ) (count done every before tick word : ℕ) (left behind : Stream) (items : List ℕ) → done < count
    → whole ≡ items ++ ticks_drawn (count - done) every before left → (word, behind) ≡ next_u64 left → tick ≡ before + (1 + word % (2 * every))
    → whole ≡ (items ++ tick ∷ []) ++ ticks_drawn (count - (done + 1)) every tick behind
drawn-next whole count done every before tick word left behind items within is draws at =
    let one : count - done ≡ suc (count - (done + 1)) = omega (arith, within) in
    rw (at) (is ∙ ap (λ k. items ++ ticks_drawn k every before left) one ∙ drawn-one (count - (done + 1)) every before left items
    ∙ ap (λ (n : ℕ × Stream). (items ++ (before + (1 + n.0 % (2 * every))) ∷ []) ++ ticks_drawn (count - (done + 1)) every (before + (1 + n.0 % (2 * every))) n.1) (sym draws))

-- the texts between commas, which were collected
pub split-into : {Z E : Type 0} (r : Result (Vec (Bor Text) Z) E) (v : Vec (Bor Text) Z) (items : List (Bor Text)) (text : Text) → r ≡ Ok v → items ≡ v.items
    → IfOk r (λ w. map (λ s. s.now) w.items ≡ slice_split (λ b. b == 44) text) → map (λ s. s.now) items ≡ slice_split (λ b. b == 44) text
split-into {Z} {E} r v items text is are had =
    rw are (subst (λ (q : Result (Vec (Bor Text) Z) E). IfOk q (λ w. map (λ s. s.now) w.items ≡ slice_split (λ b. b == 44) text)) is had)

-- none is read yet
read-none : (o : Option (List ℕ)) → o ≡ with_some o (λ ticks. Some ([] ++ ticks))
read-none None = refl
read-none (Some ticks) = refl

pub listed-begin : (text : Text) (items : List ℕ) (texts : List Text) → texts ≡ slice_split (λ b. b == 44) text → items ≡ []
    → listed text ≡ with_some (rising 0 texts) (λ ticks. Some (items ++ ticks))
listed-begin text items texts are none = rw (none, are) (read-none (rising 0 (slice_split (λ b. b == 44) text)))

-- one tick more is read
read-one : (o : Option (List ℕ)) (tick : ℕ) (items : List ℕ)
    → with_some (with_some o (λ ticks. Some (tick ∷ ticks))) (λ ticks. Some (items ++ ticks)) ≡ with_some o (λ ticks. Some ((items ++ tick ∷ []) ++ ticks))
read-one None tick items = refl
read-one (Some ticks) tick items = ap Some (sym (append_assoc items (tick ∷ []) ticks))

pub listed-next : (whole : Option (List ℕ)) (items : List ℕ) (before tick : ℕ) (text : Text) (more : List Text)
    → whole ≡ with_some (rising before (text ∷ more)) (λ ticks. Some (items ++ ticks)) → Some tick ≡ later text before
    → whole ≡ with_some (rising tick more) (λ ticks. Some ((items ++ tick ∷ []) ++ ticks))
listed-next whole items before tick text more is reads =
    is ∙ ap (λ o. with_some (with_some o (λ t. with_some (rising t more) (λ ticks. Some (t ∷ ticks)))) (λ ticks. Some (items ++ ticks))) (sym reads)
    ∙ read-one (rising tick more) tick items

texts-at : (texts : List (Bor Text)) (i : ℕ) (d : Bor Text) → i < length texts → map (λ s. s.now) (drop i texts) ≡ (get_or texts i d).now ∷ map (λ s. s.now) (drop (i + 1) texts)
texts-at texts i d within =
    let one : i + 1 ≡ suc i = omega arith in
    rw (one, drop-cons texts i d within) refl

pub listed-at : (whole : Option (List ℕ)) (items : List ℕ) (before tick : ℕ) (texts : List (Bor Text)) (i : ℕ) (d : Bor Text) → i < length texts
    → whole ≡ with_some (rising before (map (λ s. s.now) (drop i texts))) (λ ticks. Some (items ++ ticks)) → Some tick ≡ later (get_or texts i d).now before
    → whole ≡ with_some (rising tick (map (λ s. s.now) (drop (i + 1) texts))) (λ ticks. Some ((items ++ tick ∷ []) ++ ticks))
listed-at whole items before tick texts i d within is reads =
    listed-next whole items before tick (get_or texts i d).now (map (λ s. s.now) (drop (i + 1) texts))
    (is ∙ ap (λ (more : List Text). with_some (rising before more) (λ ticks. Some (items ++ ticks))) (texts-at texts i d within)) reads
