-- How the rows of a generated trace are written, piece after piece.
use Rattle.std.proofs.Common.{◌≡◌, ℕ, List, [], ◌∷◌, ◌++◌, Option, refl, sym, ap, ◌∙◌, append_assoc}
use Rattle.std.{specs.Io.KnownBytes.Appends, proofs.lemmas.List.append-nil}
use Rattle.pcm_io.{specs.Giving.AppendsPrefix, specs.Reserved.{Reserved, appended, reserved}, proofs.ByteLemmas.{Appends-Appends, Appends-nothing}}
use Rattle.trace_reader.specs.declared.event.Event.{Event}
use Rattle.trace_gen.specs.EventText.{event_row, event_rows, trace_header, trace_text}
use Rattle.run_text.specs.Gathering.{Flushes}
use Rattle.program_calls.proofs.Written.{AppendsPrefix-after}

-- all but these rows are printed: some bytes are gone, some are in the text, and these rows are left
pub record HasDrawn {n : ℕ} (all left : List (Event n)) (text : Reserved) (before now : Option (List ℕ)) : Type 0 where
  pub gone : List ℕ
  pub sent : Appends before now gone
  pub is : (gone ++ text.bytes) ++ event_rows left ≡ trace_text all
  pub limit : text.limit ≡ 65536

pub drawn-header : {n : ℕ} (all : List (Event n)) (a : Option (List ℕ)) → HasDrawn all all (appended (reserved 65536) trace_header) a a
drawn-header all a = record { gone = []; sent = Appends-nothing a; is = refl; limit = refl }

pub drawn-flushed : {n : ℕ} (all left : List (Event n)) (room : ℕ) (old new : Reserved) (a b c : Option (List ℕ))
    → HasDrawn all left old a b → Flushes room old new b c → HasDrawn all left new a c
drawn-flushed all left room old new a b c h f = record {
  gone = h.gone ++ f.piece;
  sent = Appends-Appends a b c h.gone f.piece h.sent f.sent;
  is = ap (λ (xs : List ℕ). xs ++ event_rows left) (append_assoc h.gone f.piece new.bytes ∙ ap (λ (xs : List ℕ). h.gone ++ xs) (sym f.kept)) ∙ h.is;
  limit = f.limit ∙ h.limit;
}

pub drawn-row : {n : ℕ} (all : List (Event n)) (event : Event n) (left : List (Event n)) (text : Reserved) (a b : Option (List ℕ))
    → HasDrawn all (event ∷ left) text a b → HasDrawn all left (appended text (event_row event)) a b
unfolding event_rows
drawn-row all event left text a b h = record {
  gone = h.gone;
  sent = h.sent;
  is =
      ap (λ (xs : List ℕ). xs ++ event_rows left) (sym (append_assoc h.gone text.bytes (event_row event)))
      ∙ append_assoc (h.gone ++ text.bytes) (event_row event) (event_rows left)
      ∙ h.is;
  limit = h.limit;
}

pub drawn-last : {n : ℕ} (all left : List (Event n)) (text : Reserved) (a b c : Option (List ℕ))
    → left ≡ [] → HasDrawn all left text a b → Appends b c text.bytes → Appends a c (trace_text all)
unfolding event_rows
drawn-last all left text a b c none h last =
    let whole : h.gone ++ text.bytes ≡ trace_text all = sym (append-nil (h.gone ++ text.bytes)) ∙ sym (ap (λ (es : List (Event _)). (h.gone ++ text.bytes) ++ event_rows es) none) ∙ h.is in
    rw (← whole) (Appends-Appends a b c h.gone text.bytes h.sent last)

pub drawn-part : {n : ℕ} (all left : List (Event n)) (text : Reserved) (a b c : Option (List ℕ))
    → HasDrawn all left text a b → AppendsPrefix b c text.bytes → AppendsPrefix a c (trace_text all)
drawn-part all left text a b c h part = AppendsPrefix-after a b c h.gone text.bytes (event_rows left) (trace_text all) h.is h.sent part
