-- What is kept of a record, in the room that was taken for it.
use Rattle.std.proofs.Common.{◌≡◌, ℕ, zero, suc, ◌<◌, ◌≤◌, List, [], ◌∷◌, ◌++◌, length, take, map, set, get_or, min, replicate, Option, Some, None, unwrap_or, refl, sym, ap, ◌∙◌, arith}
use Rattle.std.proofs.{lemmas.List.{get_or_read, get_or-set_same, length-map, length-replicate, length-take, take-set}, lemmas.List.Elements.{All-get_or, All-replicate}}
use Rattle.csv.specs.Records.{field_at}
use Rattle.trace_reader.specs.Rows.{text_at}
use Rattle.pcm_io.specs.Reserved.{Reserved, appended, reserved, room_in}
use Rattle.trace_stream.{specs.Kept.{Kept, most_bytes, with_bytes}, specs.Room.{IsFieldRoom, IsRoom, bytes_at, first_bytes}, proofs.Keeping.room-takes}

-- what is kept, so many fields of it whole
abbrev pub kept_in : ℕ → List Reserved → Kept
kept_in whole texts = record { fields = first_bytes whole texts; field = bytes_at texts whole }

-- room that was just taken
pub new-room : IsRoom (replicate 5 (reserved most_bytes))
new-room = record { five = length-replicate 5 (reserved most_bytes); each = All-replicate IsFieldRoom 5 (reserved most_bytes) (record { limit = refl; within = omega arith }) }

-- as many fields are kept as are whole
pub kept-count : (whole : ℕ) (texts : List Reserved) → IsRoom texts → whole ≤ 5 → length (first_bytes whole texts) ≡ whole
kept-count whole texts room few =
    let five = room.five in
    let least : min whole (length texts) ≡ whole = omega (arith, five, few) in
    length-map (take whole texts) (λ (t : Reserved). t.bytes) ∙ length-take whole texts ∙ least

pub text-room : (texts : List Reserved) (index : ℕ) (text : Reserved) → IsRoom texts → index < 5 → text ≡ get_or texts index text → IsFieldRoom text
text-room texts index text room there is =
    let five = room.five in
    rw is (All-get_or IsFieldRoom texts index text (omega (arith, five, there)) room.each)

-- the first of them stay
first-set : (texts : List Reserved) (whole : ℕ) (text : Reserved) → first_bytes whole (set texts whole text) ≡ first_bytes whole texts
first-set texts whole text = ap (map (λ (t : Reserved). t.bytes)) (take-set texts whole text)

at-set : (texts : List Reserved) (whole : ℕ) (text : Reserved) → IsRoom texts → whole < 5 → bytes_at (set texts whole text) whole ≡ text.bytes
at-set texts whole text room few =
    let five = room.five in
    ap (λ (t : Reserved). t.bytes) (get_or-set_same texts whole text (reserved 257) (omega (arith, five, few)))

at-read : (texts : List Reserved) (index : ℕ) (text : Reserved) → IsRoom texts → index < 5 → text ≡ get_or texts index text → text.bytes ≡ bytes_at texts index
at-read texts index text room there is =
    let five = room.five in
    ap (λ (t : Reserved). t.bytes) (get_or_read texts index text (omega (arith, five, there)) is (reserved 257))

-- the field of a number, where it is whole, and where it isn't
field_at-first : (texts : List Reserved) (whole i : ℕ) → i < whole → whole ≤ length texts → field_at (first_bytes whole texts) i ≡ Some (bytes_at texts i)
unfolding field_at
field_at-first [] whole i below within = absurd (omega arith)
field_at-first (text ∷ texts) zero i below within = absurd (omega arith)
field_at-first (text ∷ texts) (suc whole) zero below within = refl
field_at-first (text ∷ texts) (suc whole) (suc i) below within = field_at-first texts whole i (omega arith) (omega arith)

field_at-past : (texts : List Reserved) (whole i : ℕ) → whole ≤ i → field_at (first_bytes whole texts) i ≡ None
unfolding field_at
field_at-past [] zero i past = refl
field_at-past [] (suc whole) i past = refl
field_at-past (text ∷ texts) zero i past = refl
field_at-past (text ∷ texts) (suc whole) zero past = absurd (omega arith)
field_at-past (text ∷ texts) (suc whole) (suc i) past = field_at-past texts whole i (omega arith)

pub field-read : (texts : List Reserved) (whole i : ℕ) (text : Reserved) → IsRoom texts → whole ≤ 5 → i < whole → text ≡ get_or texts i text → text.bytes ≡ text_at (first_bytes whole texts) i
field-read texts whole i text room few below is =
    let five = room.five in
    at-read texts i text room (omega (arith, few, below)) is ∙ sym (ap (λ (o : Option (List ℕ)). unwrap_or o []) (field_at-first texts whole i below (omega (arith, five, few))))

pub field-past : (texts : List Reserved) (whole i : ℕ) → whole ≤ i → [] ≡ text_at (first_bytes whole texts) i
field-past texts whole i past = sym (ap (λ (o : Option (List ℕ)). unwrap_or o []) (field_at-past texts whole i past))

-- nothing of a record yet
pub kept-nothing : (texts : List Reserved) (text : Reserved) → IsRoom texts → text.bytes ≡ [] → kept_in 0 (set texts 0 text) ≡ record { fields = []; field = [] }
kept-nothing texts text room none = ap (λ (f : List ℕ). let k : Kept = record { fields = []; field = f } in k) (at-set texts 0 text room (omega arith) ∙ none)

-- bytes more of the field at hand
pub kept-more : (texts : List Reserved) (whole : ℕ) (text : Reserved) (run : List ℕ) (count : ℕ) → IsRoom texts → whole < 5 → text ≡ get_or texts whole text
    → count ≡ min (length run) (room_in text)
    → kept_in whole (set texts whole (appended text (take count run))) ≡ record (kept_in whole texts) { field = with_bytes (bytes_at texts whole) run }
kept-more texts whole text run count room few is least =
    let own = text-room texts whole text room few is in
    let limit = own.limit in
    let all : text.bytes ++ take count run ≡ with_bytes text.bytes run = room-takes most_bytes text.bytes run count own.within (omega (arith, least, limit)) in
    rw (first-set texts whole (appended text (take count run)), at-set texts whole (appended text (take count run)) room few, all, at-read texts whole text room few is) refl
