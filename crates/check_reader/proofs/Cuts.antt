-- Cutting bytes at the first byte of a kind, and a row into its fields.
use Rattle.std.proofs.Common.{◌≡◌, ℕ, zero, suc, ◌+◌, ◌-◌, ◌<◌, ◌==◌, eq-eqb, eqb-true, length-drop, append_assoc, List, [], ◌∷◌, ◌++◌, length, take, drop, Bool, true, false, Option, Some, None, refl, ap, subst, ◌∙◌, arith, option_map, not}
use Rattle.std.{specs.List.{list_all, join_with_byte}, specs.Option.option_and_then, specs.Prelude.{if◌then◌else◌, codes, slice_index}, proofs.lemmas.Bool.Decides.nat_tests}
use Rattle.std.proofs.{lemmas.Grind.common_steps, lemmas.List.take_all}
use Rattle.memchr.specs.Find.{IsFirstByte, is_byte}
use Rattle.check_reader.specs.Fields.{Fields, cut_at, fields_of}

-- no byte of these is `end`
abbrev pub lacks : ℕ → List ℕ → Bool
lacks end bytes = list_all (λ byte. not (byte == end)) bytes

-- bytes up to a first `end`, and what stands behind it
pub cut_at-text : (end : ℕ) (front rest : List ℕ) → lacks end front ≡ true → cut_at end (front ++ end ∷ rest) ≡ Some (front, rest)
unfolding cut_at
cut_at-text end [] rest h = grind (arith, nat_tests)
cut_at-text end (byte ∷ front) rest h =
    let here : (byte == end) ≡ false = grind (arith, nat_tests) in
    let there : lacks end front ≡ true = grind (arith, nat_tests) in
    let more = cut_at-text end front rest there in
    rw (here, more) refl

-- what was cut is what stands there
pub cut_at-some : (end : ℕ) (bytes : List ℕ) (cut : List ℕ × List ℕ) → cut_at end bytes ≡ Some cut → bytes ≡ cut.0 ++ end ∷ cut.1
unfolding cut_at
cut_at-some end [] cut h = cc h
cut_at-some end (byte ∷ rest) cut h = by (byte == end) refl (cut_at end rest) refl h (λ c. cut_at-some end rest c)
  where
    by : (b : Bool) → (byte == end) ≡ b → (o : Option (List ℕ × List ℕ)) → cut_at end rest ≡ o
        → (if b then Some ([], rest) else option_map (λ c. (byte ∷ c.0, c.1)) o) ≡ Some cut
        → ((c : List ℕ × List ℕ) → cut_at end rest ≡ Some c → rest ≡ c.0 ++ end ∷ c.1)
        → byte ∷ rest ≡ cut.0 ++ end ∷ cut.1
    by true e o is q more =
        let same : byte ≡ end = eqb-true byte end e in
        let at : ([], rest) ≡ cut = cc in
        rw (← at, same) refl
    by false e None is q more = cc q
    by false e (Some c) is q more =
        let at : (byte ∷ c.0, c.1) ≡ cut = cc in
        rw (← at) (ap (λ x. byte ∷ x) (more c is))

-- the first such byte cuts there
pub cut_at-first : (end : ℕ) (bytes : List ℕ) (at : ℕ) → at < length bytes → slice_index bytes at ≡ end
    → ((k : ℕ) → k < at → (slice_index bytes k ≡ end → ⊥)) → cut_at end bytes ≡ Some (take at bytes, drop (at + 1) bytes)
unfolding cut_at
cut_at-first end [] at within is before = absurd (omega arith)
cut_at-first end (byte ∷ rest) zero within is before = grind (arith, nat_tests, common_steps)
cut_at-first end (byte ∷ rest) (suc at) within is before =
    let first = before 0 (omega arith) in
    let here : (byte == end) ≡ false = grind (arith, nat_tests, first) in
    let more = cut_at-first end rest at (omega arith) is (λ k below. before (suc k) (omega arith)) in
    let further : suc at + 1 ≡ suc (at + 1) = omega arith in
    rw (here, more, further) refl

pub cut_at-nowhere : (end : ℕ) (bytes : List ℕ) → ((k : ℕ) → k < length bytes → (slice_index bytes k ≡ end → ⊥)) → cut_at end bytes ≡ None
unfolding cut_at
cut_at-nowhere end [] before = refl
cut_at-nowhere end (byte ∷ rest) before =
    let first = before 0 (omega arith) in
    let here : (byte == end) ≡ false = grind (arith, nat_tests, first) in
    let more = cut_at-nowhere end rest (λ k below. before (suc k) (omega arith)) in
    rw (here, more) refl

-- what a search for a byte found cuts there
pub cut_at-search : (end : ℕ) (bytes : List ℕ) (found : Option ℕ) → IsFirstByte (is_byte end) bytes found
    → cut_at end bytes ≡ option_map (λ at. (take at bytes, take (length bytes - (at + 1)) (drop (at + 1) bytes))) found
cut_at-search end bytes None h =
    cut_at-nowhere end bytes (λ k below is. h k (omega arith) below (eq-eqb (slice_index bytes k) end is))
cut_at-search end bytes (Some at) h =
    let is : slice_index bytes at ≡ end = eqb-true (slice_index bytes at) end h.1 in
    let cut = cut_at-first end bytes at h.0.high is (λ k below same. h.0.before k (omega arith) below (eq-eqb (slice_index bytes k) end same)) in
    let all : take (length bytes - (at + 1)) (drop (at + 1) bytes) ≡ drop (at + 1) bytes = take_all _ _ (simp length-drop (omega arith)) in
    rw all cut

-- a step that gave a value had one
and_then-some : {A C : Type 0} (next : A → Option C) (o : Option A) (y : C) → option_and_then next o ≡ Some y → (x : A) × (o ≡ Some x) × (next x ≡ Some y)
and_then-some next None y h = cc h
and_then-some next (Some x) y h = (x, refl, h)

map-some : {A C : Type 0} (f : A → C) (o : Option A) (y : C) → option_map f o ≡ Some y → (x : A) × (o ≡ Some x) × (f x ≡ y)
map-some f None y h = cc h
map-some f (Some x) y h = (x, refl, cc)

-- a row's fields in a row, up to its LF
abbrev pub joined : Fields → List ℕ
joined f = join_with_byte 44 (f.number ∷ f.letter ∷ f.line ∷ f.word ∷ f.tick ∷ f.place ∷ f.digits ∷ []) ++ codes "\n"

-- the pieces of seven cuts
pieces : (bytes : List ℕ) (a b c d e g k : List ℕ × List ℕ)
    → bytes ≡ a.0 ++ 44 ∷ a.1 → a.1 ≡ b.0 ++ 44 ∷ b.1 → b.1 ≡ c.0 ++ 44 ∷ c.1 → c.1 ≡ d.0 ++ 44 ∷ d.1
    → d.1 ≡ e.0 ++ 44 ∷ e.1 → e.1 ≡ g.0 ++ 44 ∷ g.1 → g.1 ≡ k.0 ++ 10 ∷ k.1
    → bytes ≡ (join_with_byte 44 (a.0 ∷ b.0 ∷ c.0 ∷ d.0 ∷ e.0 ∷ g.0 ∷ k.0 ∷ []) ++ codes "\n") ++ k.1
pieces bytes a b c d e g k ta tb tc td te tg tk = rw (ta, tb, tc, td, te, tg, tk) (simp append_assoc)

-- the fields found are those that stand there
pub fields_of-some : (bytes : List ℕ) (f : Fields) → fields_of bytes ≡ Some f → bytes ≡ joined f ++ f.rest
unfolding fields_of
fields_of-some bytes f h =
    let a = and_then-some _ (cut_at 44 bytes) f h in
    let b = and_then-some _ (cut_at 44 a.0.1) f a.2 in
    let c = and_then-some _ (cut_at 44 b.0.1) f b.2 in
    let d = and_then-some _ (cut_at 44 c.0.1) f c.2 in
    let e = and_then-some _ (cut_at 44 d.0.1) f d.2 in
    let g = and_then-some _ (cut_at 44 e.0.1) f e.2 in
    let k = map-some _ (cut_at 10 g.0.1) f g.2 in
    subst (λ (x : Fields). bytes ≡ joined x ++ x.rest) k.2 (pieces bytes a.0 b.0 c.0 d.0 e.0 g.0 k.0
    (cut_at-some 44 bytes a.0 a.1) (cut_at-some 44 a.0.1 b.0 b.1) (cut_at-some 44 b.0.1 c.0 c.1) (cut_at-some 44 c.0.1 d.0 d.1)
    (cut_at-some 44 d.0.1 e.0 e.1) (cut_at-some 44 e.0.1 g.0 g.1) (cut_at-some 10 g.0.1 k.0 k.1))

-- fields that have no comma, and no LF in the last, are found
pub record AreApart (f : Fields) : Type 0 where
  pub number : lacks 44 f.number ≡ true
  pub letter : lacks 44 f.letter ≡ true
  pub line : lacks 44 f.line ≡ true
  pub word : lacks 44 f.word ≡ true
  pub tick : lacks 44 f.tick ≡ true
  pub place : lacks 44 f.place ≡ true
  pub digits : lacks 10 f.digits ≡ true

cuts : (end : ℕ) (front rest bytes : List ℕ) → bytes ≡ front ++ end ∷ rest → lacks end front ≡ true → cut_at end bytes ≡ Some (front, rest)
cuts end front rest bytes is h = rw is (cut_at-text end front rest h)

pub fields_of-text : (bytes : List ℕ) (f : Fields) → AreApart f → bytes ≡ joined f ++ f.rest → fields_of bytes ≡ Some f
unfolding fields_of
fields_of-text bytes f apart h =
    let i : List ℕ = f.digits ++ 10 ∷ f.rest in
    let g : List ℕ = f.place ++ 44 ∷ i in
    let e : List ℕ = f.tick ++ 44 ∷ g in
    let d : List ℕ = f.word ++ 44 ∷ e in
    let c : List ℕ = f.line ++ 44 ∷ d in
    let b : List ℕ = f.letter ++ 44 ∷ c in
    let whole : bytes ≡ f.number ++ 44 ∷ b = h ∙ simp append_assoc in
    rw (
      cuts 44 f.number b bytes whole apart.number,
      cut_at-text 44 f.letter c apart.letter,
      cut_at-text 44 f.line d apart.line,
      cut_at-text 44 f.word e apart.word,
      cut_at-text 44 f.tick g apart.tick,
      cut_at-text 44 f.place i apart.place,
      cut_at-text 10 f.digits f.rest apart.digits,
    ) refl
