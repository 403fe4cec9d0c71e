-- What is kept of a record as it is read: enough to judge it, however long it is.
use Rattle.std.specs.Prelude.{◌≡◌, ◌⊎◌, ◌||◌, ◌==◌, ◌<◌, ℕ, ◌+◌, List, [], ◌∷◌, ◌++◌, length, take, map, Bool, true, false, if◌then◌else◌, Option, Some, None, IsSomeAnd}
use Rattle.csv.specs.{Machine.{Read, ends_at_end, is_end, step}, Reading.{default_config, strip_bom}, declared.parser.Action.Action, declared.parser.State.State}
use Rattle.csv.specs.declared.parser.State.TheVariants as st
use Rattle.csv.specs.declared.parser.Action.TheVariants as act
use Rattle.trace_stream.specs.Arrived.{Arrived, Comes}

-- how many bytes of a field are kept: one more than the longest field of a right row has
abbrev pub most_bytes : ℕ
most_bytes = 257

-- how many fields are kept: one more than a right row has
abbrev pub most_fields : ℕ
most_fields = 5

-- what is kept of a field, and of the fields of a record
unfoldable pub kept_field : List ℕ → List ℕ
kept_field field = take most_bytes field

unfoldable pub kept_fields : List (List ℕ) → List (List ℕ)
kept_fields fields = take most_fields (map kept_field fields)

-- what is kept of the record at hand: its whole fields, and the field at hand
pub record Kept : Type 0 where
  pub fields : List (List ℕ)
  pub field : List ℕ

-- a field more, and bytes more of the field at hand, of what is kept
abbrev pub with_field : List (List ℕ) → List ℕ → List (List ℕ)
with_field fields field = take most_fields (fields ++ field ∷ [])

abbrev pub with_bytes : List ℕ → List ℕ → List ℕ
with_bytes field run = take most_bytes (field ++ run)

-- what is kept after a byte
abbrev pub fields_then : Action → List (List ℕ) → List ℕ → List (List ℕ)
fields_then act.EndField fields field = with_field fields field
fields_then act.EndRecord fields field = with_field fields field
fields_then act.Skip fields field = fields
fields_then act.Copy fields field = fields

abbrev pub field_then : Action → ℕ → List ℕ → List ℕ
field_then act.Copy byte field = with_bytes field (byte ∷ [])
field_then act.EndField byte field = []
field_then act.EndRecord byte field = []
field_then act.Skip byte field = field

-- the next record of a text as `csv` reads it (`next_record`), of which no more is kept than this
unfoldable pub next_kept : State → List (List ℕ) → List ℕ → List ℕ → Option Read
next_kept s fields field [] =
    if ends_at_end s then Some (with_field fields field, st.StartRecord, []) else None
next_kept s fields field (byte ∷ rest) =
    if is_end (step default_config s byte).1 then Some (fields_then (step default_config s byte).1 fields field, (step default_config s byte).0, rest)
    else next_kept (step default_config s byte).0 (fields_then (step default_config s byte).1 fields field) (field_then (step default_config s byte).1 byte field) rest

-- how many fields are whole after a byte that doesn't end the record
abbrev pub whole_then : Action → ℕ → ℕ
whole_then act.EndField whole = whole + 1
whole_then act.EndRecord whole = whole
whole_then act.Skip whole = whole
whole_then act.Copy whole = whole

-- whether these bytes decide of the record that is begun, of which so many fields are whole: one of them ends it, or its fifth field
unfoldable pub decides : State → ℕ → List ℕ → Bool
decides s whole [] = false
decides s whole (byte ∷ rest) =
    is_end (step default_config s byte).1 || ((whole_then (step default_config s byte).1 whole == most_fields)
    || decides (step default_config s byte).0 (whole_then (step default_config s byte).1 whole) rest)

-- these first bytes of a text decide of no record, so that not even its header is whole
abbrev pub LacksHeader : List ℕ → Type 0
LacksHeader bytes = decides st.StartRecord 0 (strip_bom bytes) ≡ false

-- the record that was begun in the first state is the one that the machine is now in, whatever comes behind; and where it has fewer than
-- five fields yet, it is decided where that one is
pub record GoesOn (s0 : State) (fields0 : List (List ℕ)) (field0 text0 : List ℕ) (s : State) (fields : List (List ℕ)) (field text : List ℕ) : Type 0 where
  pub same : (more : List ℕ) → next_kept s0 fields0 field0 (text0 ++ more) ≡ next_kept s fields field (text ++ more)
  pub decided : length fields < most_fields → (more : List ℕ) → decides s0 (length fields0) (text0 ++ more) ≡ decides s (length fields) (text ++ more)

-- of the next record this is kept: it is whole, and the text goes on so behind it; or it has at least five fields, as what is kept
abbrev pub IsKeptOf : Option Read → List (List ℕ) → State → List ℕ → Type 0
IsKeptOf next fields s text = (next ≡ Some (fields, s, text)) ⊎ ((length fields ≡ most_fields) × IsSomeAnd next (λ p. length p.0 ≡ most_fields))

-- the record that was begun in the first state is decided, whatever comes behind
pub record Decided (s0 : State) (fields0 : List (List ℕ)) (field0 text0 : List ℕ) (fields : List (List ℕ)) (s : State) (text : List ℕ) : Type 0 where
  pub same : (more : List ℕ) → IsKeptOf (next_kept s0 fields0 field0 (text0 ++ more)) fields s (text ++ more)

-- what a reader of records finds: the next record of the text, as far as it decides, whatever may still come behind; or that there is none
abbrev pub FindsKept : Bool → State → List ℕ → List (List ℕ) → State → Arrived → Type 0
FindsKept true s0 text fields s new =
    (more : List ℕ) → Comes new.ended more → IsKeptOf (next_kept s0 [] [] (text ++ more)) fields s (new.bytes ++ more)
FindsKept false s0 text fields s new = (next_kept s0 [] [] text ≡ None) × (new.ended ≡ true)
