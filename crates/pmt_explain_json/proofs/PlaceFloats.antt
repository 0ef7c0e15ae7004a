-- What places have, hints, and entries by weight have no floats.
use Rattle.std.proofs.Common.{◌≡◌, ℕ, Bool, false, List, [], ◌∷◌, refl, slice_get, take}
use Rattle.serde_json.specs.Data.{string}
use Rattle.serde_json.specs.View.{items_of}
use Rattle.serde_json.specs.Written.{has_float, items_have_float}
use Rattle.pmt_model.specs.Traces.{Recording}
use Rattle.pmt_explanation.specs.Prelude.{Origin, PlaceRow, SavedBefore, Hint, HintKind, Entries, Entry, Subject, Site, Labels}
use Rattle.pmt_entries.specs.declared.entries.Subject.TheVariants as subjects
use Rattle.pmt_explanation.specs.declared.explaining.Explanation.{Explanation}
use Rattle.pmt_explain_json.specs.declared.facts.Facts.{Facts}
use Rattle.pmt_explain_json.specs.Entries.{count_data, event_data, or_null}
use Rattle.pmt_explain_json.specs.Places.{hint_data, hint_name, path_label, place_data, place_label, place_thread, row_label, saved_data}
use Rattle.pmt_explain_json.specs.Lines.{entry_data, members_of, place_of, site_at, site_data, sites_data}
use Rattle.pmt_explain_json.proofs.NoFloats.{array-float, both, count-float, event-float, label-float, or_null-float}

saved-float : (T : Recording) (labels : Labels) (s : SavedBefore) → has_float (saved_data T labels s) ≡ false
saved-float T labels s = both (has_float (event_data T labels s.store)) false (event-float T labels s.store) refl

pub place-float : (T : Recording) (labels : Labels) (whole : Bool) (r : PlaceRow) → has_float (place_data T labels whole r) ≡ false
place-float T labels whole r =
    both (has_float (event_data T labels r.first)) _ (event-float T labels r.first)
    (both (has_float (or_null (event_data T labels) r.first_late)) _ (or_null-float (event_data T labels) (event-float T labels) r.first_late)
    (both (has_float (or_null (event_data T labels) r.first_left)) _ (or_null-float (event_data T labels) (event-float T labels) r.first_left)
    (both (has_float (or_null (event_data T labels) r.first_lost)) _ (or_null-float (event_data T labels) (event-float T labels) r.first_lost)
    (both (has_float (or_null string (row_label labels whole r.place))) _ (label-float (row_label labels whole r.place))
    (both (has_float (or_null (saved_data T labels) r.saved_before)) _ (or_null-float (saved_data T labels) (saved-float T labels) r.saved_before)
    (both (has_float (or_null count_data (place_thread r.place))) false (count-float (place_thread r.place)) refl))))))

pub hint-float : (T : Recording) (labels : Labels) (h : Hint) → has_float (hint_data T labels h) ≡ false
hint-float T labels h =
    both (has_float (event_data T labels h.first)) _ (event-float T labels h.first)
    (both (has_float (or_null string (place_label labels h.place))) _ (label-float (place_label labels h.place))
    (both (has_float (or_null string (path_label labels h.path))) _ (label-float (path_label labels h.path))
    (both (has_float (or_null count_data (place_thread h.place))) false (count-float (place_thread h.place)) refl)))

site-float : (labels : Labels) (p : Origin) → has_float (site_data labels p) ≡ false
site-float labels p =
    both (has_float (or_null string (place_label labels p))) _ (label-float (place_label labels p))
    (both (has_float (or_null count_data (place_thread p))) false (count-float (place_thread p)) refl)

site_at-float : (labels : Labels) (sites : List Site) (n : ℕ) → has_float (site_at labels sites n) ≡ false
site_at-float labels sites n = or_null-float (site_data labels) (site-float labels) (place_of (slice_get sites n))

lone-float : (labels : Labels) (p : Origin) → items_have_float (items_of (site_data labels p ∷ [])) ≡ false
lone-float labels p = both (has_float (site_data labels p)) false (site-float labels p) refl

sites-float : (labels : Labels) (es : Entries) (s : Subject) (p : Origin) → has_float (sites_data labels es s p) ≡ false
sites-float labels es (subjects.Loss n) p = array-float (site_at labels es.sites.items) (site_at-float labels es.sites.items) (take 100 (members_of (slice_get es.losses.items n)))
sites-float labels es (subjects.Failure n) p = lone-float labels p
sites-float labels es (subjects.Hint n) p = lone-float labels p
sites-float labels es (subjects.Left n) p = lone-float labels p
sites-float labels es (subjects.LeftPath n) p = lone-float labels p

pub entry-float : (x : Explanation) (labels : Labels) (e : Entry) (f : Facts) → has_float (entry_data x labels e f) ≡ false
entry-float x labels e f =
    both (has_float (or_null (event_data x.analysis.trace labels) f.first)) _ (or_null-float (event_data x.analysis.trace labels) (event-float x.analysis.trace labels) f.first)
    (both (has_float (or_null count_data f.of)) _ (count-float f.of)
    (both (has_float (or_null string (path_label labels f.path))) _ (label-float (path_label labels f.path))
    (both (has_float (or_null (λ (k : HintKind). string (hint_name k)) f.sign)) _ (or_null-float (λ (k : HintKind). string (hint_name k)) (λ k. refl) f.sign)
    (both (has_float (sites_data labels x.entries e.subject f.site)) false (sites-float labels x.entries e.subject f.site) refl))))
