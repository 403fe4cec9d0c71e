-- A source that is asked only where what came so far is wanting.
use Rattle.std.proofs.Common.{◌≡◌, ℕ, zero, suc, ◌≤◌, Bool, true, false, List, [], ◌++◌, length, Option, refl, sym, append_assoc}
use Rattle.std.proofs.lemmas.List.{append-nil}
use Rattle.pcm_io.{specs.Taking.Takes, proofs.ByteLemmas.{Takes-Takes, Takes-nothing}}
use Rattle.trace_stream.specs.Requests.{AsksWhere, most_asked}

module _ {S : Type 0} (left : S → Option (List ℕ)) (taken : S → ℕ) where
  -- in all it gave these bytes
  pub asks-takes : (P : List ℕ → Type 0) (first : S) (times : ℕ) (bytes : List ℕ) (now : S) → AsksWhere left taken P first times bytes now → Takes (left first) (left now) (taken first) (taken now) bytes
  asks-takes P first zero bytes now h = rw (h.0, h.1) (Takes-nothing _ _)
  asks-takes P first (suc times) bytes now h =
      rw h.6 (Takes-Takes _ _ _ _ _ _ _ _ (asks-takes P first times h.1 h.0 h.2) h.5.takes)

  -- one request more
  pub asks-again : (P : List ℕ → Type 0) (first mid now : S) (times : ℕ) (before given : List ℕ) → AsksWhere left taken P first times before mid → P before
      → Takes (left mid) (left now) (taken mid) (taken now) given → length given ≤ most_asked → AsksWhere left taken P first (suc times) (before ++ given) now
  asks-again P first mid now times before given h wanting takes few = (mid, before, h, wanting, given, record { takes = takes; few = few }, refl)

  -- one more, unless it had ended
  pub asks-unless : (P : List ℕ → Type 0) (first mid now : S) (times : ℕ) (before given : List ℕ) (ended : Bool) → AsksWhere left taken P first times before mid → (ended ≡ false → P before)
      → Takes (left mid) (left now) (taken mid) (taken now) given → length given ≤ most_asked → (ended ≡ true → (now ≡ mid) × (given ≡ []))
      → (count : ℕ) × AsksWhere left taken P first count (before ++ given) now
  asks-unless P first mid now times before given false h wanting takes few rests = (suc times, asks-again P first mid now times before given h (wanting refl) takes few)
  asks-unless P first mid now times before given true h wanting takes few rests =
      let same = rests refl in
      (times, rw (same.0, same.1, append-nil before) h)

  -- the requests of one reader behind those of another
  pub asks-asks : (P Q : List ℕ → Type 0) (first mid now : S) (times more : ℕ) (before bytes : List ℕ) → AsksWhere left taken P first times before mid
      → AsksWhere left taken Q mid more bytes now → ((came : List ℕ) → Q came → P (before ++ came)) → (count : ℕ) × AsksWhere left taken P first count (before ++ bytes) now
  asks-asks P Q first mid now times zero before bytes h k also = (times, rw (k.0, k.1, append-nil before) h)
  asks-asks P Q first mid now times (suc more) before bytes h k also =
      let was = asks-asks P Q first mid k.0 times more before k.1 h k.2 also in
      (suc was.0, (k.0, before ++ k.1, was.1, also k.1 k.3, k.4, k.5, rw k.6 (sym (append_assoc before k.1 k.4))))
