-- A byte order mark at the start of a text.
use Rattle.std.proofs.Common.{◌≡◌, ◌≢◌, ℕ, ◌==◌, ◌&&◌, List, [], ◌∷◌, ◌++◌, ◌∙◌, Bool, true, false, refl, ap, arith}
use Rattle.std.proofs.lemmas.Bool.Decides.{nat_tests}
use Rattle.trace_stream.specs.{Arrived.{Arrived, Comes}, Kept.{LacksHeader, decides}}
use Rattle.csv.specs.{Reading.strip_bom, declared.parser.State.TheVariants.StartRecord}

neither : (p q : Bool) → (p && false && q) ≡ false
neither true q = refl
neither false q = refl

nor-last : (p q : Bool) → (p && q && false) ≡ false
nor-last true true = refl
nor-last true false = refl
nor-last false q = refl

-- a text whose first, second or third byte isn't that of a mark
pub first-stays : (a : ℕ) (text : List ℕ) → a ≢ 239 → strip_bom (a ∷ text) ≡ a ∷ text
unfolding strip_bom
first-stays a [] other = refl
first-stays a (b ∷ []) other = refl
first-stays a (b ∷ c ∷ rest) other =
    let e : (a == 239) ≡ false = grind (arith, nat_tests) in
    rw e refl

pub second-stays : (a b : ℕ) (text : List ℕ) → b ≢ 187 → strip_bom (a ∷ b ∷ text) ≡ a ∷ b ∷ text
unfolding strip_bom
second-stays a b [] other = refl
second-stays a b (c ∷ rest) other =
    let e : (b == 187) ≡ false = grind (arith, nat_tests) in
    rw (e, neither (a == 239) (c == 191)) refl

pub third-stays : (a b c : ℕ) (text : List ℕ) → c ≢ 191 → strip_bom (a ∷ b ∷ c ∷ text) ≡ a ∷ b ∷ c ∷ text
unfolding strip_bom
third-stays a b c text other =
    let e : (c == 191) ≡ false = grind (arith, nat_tests) in
    rw (e, nor-last (a == 239) (b == 187)) refl

-- a text that begins with a mark
pub mark-goes : (a b c : ℕ) (text : List ℕ) → a ≡ 239 → b ≡ 187 → c ≡ 191 → strip_bom (a ∷ b ∷ c ∷ text) ≡ text
unfolding strip_bom
mark-goes a b c text p q r = rw (p, q, r) refl

-- a text too short for one
pub none-stays : (more : List ℕ) → more ≡ [] → strip_bom more ≡ more
unfolding strip_bom
none-stays more e = rw e refl

pub one-stays : (a : ℕ) (more : List ℕ) → more ≡ [] → strip_bom (a ∷ more) ≡ a ∷ more
unfolding strip_bom
one-stays a more e = rw e refl

pub two-stay : (a b : ℕ) (more : List ℕ) → more ≡ [] → strip_bom (a ∷ b ∷ more) ≡ a ∷ b ∷ more
unfolding strip_bom
two-stay a b more e = rw e refl

-- the first bytes of a text, as they are kept
pub begun-none : (r : Arrived) → r ≡ record { bytes = []; ended = true } → (more : List ℕ) → Comes r.ended more → strip_bom more ≡ r.bytes ++ more
begun-none r e more comes = rw e (none-stays more (comes (ap (λ (a : Arrived). a.ended) e)))

pub begun-one : (r : Arrived) (a : ℕ) → r ≡ record { bytes = a ∷ []; ended = true } → (more : List ℕ) → Comes r.ended more → strip_bom (a ∷ more) ≡ r.bytes ++ more
begun-one r a e more comes = rw e (one-stays a more (comes (ap (λ (x : Arrived). x.ended) e)))

pub begun-two : (r : Arrived) (a b : ℕ) → r ≡ record { bytes = a ∷ b ∷ []; ended = true } → (more : List ℕ) → Comes r.ended more → strip_bom (a ∷ b ∷ more) ≡ r.bytes ++ more
begun-two r a b e more comes = rw e (two-stay a b more (comes (ap (λ (x : Arrived). x.ended) e)))

pub begun-first : (r : Arrived) (a : ℕ) → r ≡ record { bytes = a ∷ []; ended = false } → a ≢ 239 → (more : List ℕ) → strip_bom (a ∷ more) ≡ r.bytes ++ more
begun-first r a e other more = rw e (first-stays a more other)

pub begun-second : (r : Arrived) (a b : ℕ) → r ≡ record { bytes = a ∷ b ∷ []; ended = false } → b ≢ 187 → (more : List ℕ) → strip_bom (a ∷ b ∷ more) ≡ r.bytes ++ more
begun-second r a b e other more = rw e (second-stays a b more other)

pub begun-third : (r : Arrived) (a b c : ℕ) → r ≡ record { bytes = a ∷ b ∷ c ∷ []; ended = false } → c ≢ 191 → (more : List ℕ) → strip_bom (a ∷ b ∷ c ∷ more) ≡ r.bytes ++ more
begun-third r a b c e other more = rw e (third-stays a b c more other)

pub begun-mark : (r : Arrived) (a b c : ℕ) → r ≡ record { bytes = []; ended = false } → a ≡ 239 → b ≡ 187 → c ≡ 191 → (more : List ℕ) → strip_bom (a ∷ b ∷ c ∷ more) ≡ r.bytes ++ more
begun-mark r a b c e p q s more = rw e (mark-goes a b c more p q s)

-- the first bytes of a mark are no header
pub lacks-none : LacksHeader []
unfolding decides strip_bom
lacks-none = refl

pub lacks-one : (a : ℕ) → a ≡ 239 → LacksHeader (a ∷ [])
unfolding decides strip_bom
lacks-one a e = rw e refl

pub lacks-two : (a b : ℕ) → a ≡ 239 → b ≡ 187 → LacksHeader (a ∷ b ∷ [])
unfolding decides strip_bom
lacks-two a b e f = rw (e, f) refl

-- nor are bytes that decide of no record, behind those that were begun with
pub lacks-more : (begun : Arrived) (bytes more : List ℕ) → ((rest : List ℕ) → Comes begun.ended rest → strip_bom (bytes ++ rest) ≡ begun.bytes ++ rest) → begun.ended ≡ false
    → decides StartRecord 0 (begun.bytes ++ more) ≡ false → LacksHeader (bytes ++ more)
lacks-more begun bytes more begins unended none = ap (decides StartRecord 0) (begins more (λ is. absurd (cc (is, unended)))) ∙ none
