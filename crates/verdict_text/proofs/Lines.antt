-- Lines that are said one behind another.
use Rattle.std.proofs.Common.{◌≡◌, ℕ, ◌&&◌, Bool, true, false, List, [], ◌∷◌, Option, Some, None, refl, sym, ap, ◌∙◌}
use Rattle.check_telling.specs.{declared.facts.RowAt.RowAt, declared.grounds.Grounds.Grounds, declared.writes.WriteGrounds.WriteGrounds}
use Rattle.verdict_telling.specs.Offers.{Offer, Busy, Forwarded, Full, Lost, Queued, Worn, can_forward, can_read, can_refuse, line_if, lost_line, merged_line, read_line}
use Rattle.verdict_telling.specs.Offers.{read_lines, stored_line, unless_worn, write_lines}
use Rattle.verdict_text.specs.RightLines.{lines_on, offer_on, offers_on, stored_on}

-- ---- one line, and others behind it

offers_if : (text : List ℕ) (stands : Bool) (x : Offer) (rest : List Offer) → offers_on text (line_if stands x rest) ≡ offers_on (offers_on text (line_if stands x [])) rest
offers_if text true x rest = refl
offers_if text false x rest = refl

offers_lost : {n : ℕ} (g : Grounds n) (text : List ℕ) (cut : Option RowAt) (rest : List Offer)
    → offers_on text (lost_line g cut rest) ≡ offers_on (offers_on text (lost_line g cut [])) rest
offers_lost g text None rest = refl
offers_lost g text (Some cut) rest = offers_if text _ (Lost cut.tick) rest

-- all of a read
pub read_said : {n : ℕ} (g : Grounds n) (tick : ℕ) (a b c d e : List ℕ) → b ≡ offers_on a (line_if (can_read g) (read_line g) []) → c ≡ offers_on b (lost_line g g.cut [])
    → d ≡ offers_on c (line_if (can_refuse g) (Busy tick) []) → e ≡ offers_on d (line_if (can_forward g) (Forwarded tick g.newest.bytes) [])
    → e ≡ offers_on a (read_lines g tick)
read_said g tick a b c d e one two three four =
    let forwarded = line_if (can_forward g) (Forwarded tick g.newest.bytes) [] in
    let coming = line_if (can_refuse g) (Busy tick) forwarded in
    four ∙ ap (λ text. offers_on text forwarded) three ∙ sym (offers_if c (can_refuse g) (Busy tick) forwarded)
    ∙ ap (λ text. offers_on text coming) two ∙ sym (offers_lost g b g.cut coming)
    ∙ ap (λ text. offers_on text (lost_line g g.cut coming)) one ∙ sym (offers_if a (can_read g) (read_line g) (lost_line g g.cut coming))

-- ---- of a write

abbrev is_empty : List Offer → Bool
is_empty [] = true
is_empty (x ∷ rest) = false

some_said : (text : List ℕ) (lines : List Offer) → is_empty lines ≡ false → lines_on text lines ≡ offers_on text lines
some_said text [] is = absurd (cc)
some_said text (x ∷ rest) is = refl

offers_merged : (text : List ℕ) (next : Option RowAt) (rest : List Offer) → offers_on text (merged_line next rest) ≡ offers_on (offers_on text (merged_line next [])) rest
offers_merged text None rest = refl
offers_merged text (Some next) rest = refl

module _ {n : ℕ} (w : WriteGrounds n) (tick read : ℕ) where
  pub taken_said : (a b c d e : List ℕ) → b ≡ stored_on a (stored_line w tick read) → c ≡ offers_on b (merged_line w.next []) → d ≡ offer_on c (Queued tick)
      → e ≡ offers_on d (line_if (w.full && w.alone) (Full tick) []) → e ≡ offers_on a (unless_worn w tick read None [])
  taken_said a b c d e one two three four =
      four ∙ ap (λ text. offers_on text (line_if (w.full && w.alone) (Full tick) [])) three
      ∙ ap (λ text. offers_on text (Queued tick ∷ line_if (w.full && w.alone) (Full tick) [])) two
      ∙ sym (offers_merged b w.next (Queued tick ∷ line_if (w.full && w.alone) (Full tick) []))
      ∙ ap (λ text. offers_on text (merged_line w.next (Queued tick ∷ line_if (w.full && w.alone) (Full tick) []))) one

  offers_worn : (text : List ℕ) (worn : Option RowAt) (rest : List Offer) → offers_on text (unless_worn w tick read worn rest) ≡ offers_on (offers_on text (unless_worn w tick read worn [])) rest
  offers_worn text (Some one) rest = refl
  offers_worn text None rest =
      let begun = stored_on text (stored_line w tick read) in
      let full = w.full && w.alone in
      offers_merged begun w.next (Queued tick ∷ line_if full (Full tick) rest)
      ∙ offers_if (offer_on (offers_on begun (merged_line w.next [])) (Queued tick)) full (Full tick) rest
      ∙ ap (λ said. offers_on said rest) (sym (offers_merged begun w.next (Queued tick ∷ line_if full (Full tick) [])))

  pub write_said : (a b c : List ℕ) → b ≡ offers_on a (unless_worn w tick read w.worn_before []) → c ≡ offer_on b (Worn tick) → c ≡ lines_on a (write_lines w tick read)
  write_said a b c one two =
      two ∙ ap (λ text. offer_on text (Worn tick)) one ∙ sym (offers_worn a w.worn_before (Worn tick ∷ [])) ∙ sym (some_said a (write_lines w tick read) (never w.worn_before))
    where
      never : (worn : Option RowAt) → is_empty (unless_worn w tick read worn (Worn tick ∷ [])) ≡ false
      never None = refl
      never (Some one) = refl
