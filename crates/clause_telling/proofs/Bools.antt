-- Of some tests of which one fails the first that does.
use Rattle.std.proofs.Common.{◌≡◌, ◌&&◌, Bool, true, false, Some, None, refl, cond}

module _ {A : Type 0} where
  pub one : (p : Bool) (a : A) → (p && true) ≡ false → cond p None (Some a) ≡ Some a
  one true a h = absurd (cc)
  one false a h = refl

  pub two : (p q : Bool) (a b : A) → (p && (q && true)) ≡ false → cond p (cond q None (Some b)) (Some a) ≡ Some (cond p b a)
  two true q a b h = one q b h
  two false q a b h = refl

  pub three : (p q r : Bool) (a b c : A) → (p && (q && (r && true))) ≡ false → cond p (cond q (cond r None (Some c)) (Some b)) (Some a) ≡ Some (cond p (cond q c b) a)
  three true q r a b c h = two q r b c h
  three false q r a b c h = refl

  pub four : (p q r s : Bool) (a b c d : A) → (p && (q && (r && (s && true)))) ≡ false
      → cond p (cond q (cond r (cond s None (Some d)) (Some c)) (Some b)) (Some a) ≡ Some (cond p (cond q (cond r d c) b) a)
  four true q r s a b c d h = three q r s b c d h
  four false q r s a b c d h = refl

  pub five : (p q r s t : Bool) (a b c d e : A) → (p && (q && (r && (s && (t && true))))) ≡ false
      → cond p (cond q (cond r (cond s (cond t None (Some e)) (Some d)) (Some c)) (Some b)) (Some a) ≡ Some (cond p (cond q (cond r (cond s e d) c) b) a)
  five true q r s t a b c d e h = four q r s t b c d e h
  five false q r s t a b c d e h = refl
