-- What parts do to the number of pages; a purge by more units than are live.
use Rattle.std.proofs.Common.{◌≡◌, inl, inr, ◌==◌, ℕ, ◌+◌, ◌≤◌, ◌<◌, zero, suc, Bool, true, false}
use Rattle.std.proofs.Common.{not, List, [], ◌∷◌, length, slice_index_or, refl, if◌then◌else◌}
use Rattle.std.proofs.Common.{arith}
use Rattle.std.specs.List.{list_any}
use Rattle.rg_base.specs.declared.place.Place.{Place}
use Rattle.rg_base.specs.declared.row.Row.{Row as TableRow}
use Rattle.rg_home.specs.Slot.{Slot, Free, Row, Pointer, Over, DeadRow, DeadPointer, DeadOver}
use Rattle.rg_home.specs.Pages.{page_at, wrote, applied, part_at}
use Rattle.rg_home.specs.Plan.{is_ended, purge_from}
use Rattle.rg_home.specs.Able.{IsLive}
use Rattle.rg_laws_pages.proofs.UndoRoomLemmas.Ends.{Ends, Ended}
use Rattle.rg_base.specs.declared.part.SlotOp.TheVariants as Op

-- a purge made while more units were counted as live is one by the live units

not_any : (live more : List ℕ) (u : ℕ) → ((v : ℕ) → IsLive live v → IsLive more v)
    → not (list_any (λ t. t == u) more) ≡ true → not (list_any (λ t. t == u) live) ≡ true
not_any live more u f e = go (list_any (λ t. t == u) live) refl
  where
    go : (b : Bool) → list_any (λ t. t == u) live ≡ b → not b ≡ true
    go true g = absurd (cc (e, f u g))
    go false g = refl

ended_fewer : (live more : List ℕ) → ((v : ℕ) → IsLive live v → IsLive more v) → (s : Slot)
    → is_ended more s ≡ true → is_ended live s ≡ true
ended_fewer live more f (DeadRow c u) e = not_any live more u f e
ended_fewer live more f (DeadPointer c o u) e = not_any live more u f e
ended_fewer live more f (DeadOver c o u) e = not_any live more u f e
ended_fewer live more f Free e = absurd (cc (e))
ended_fewer live more f (Row c b) e = absurd (cc (e))
ended_fewer live more f (Pointer c o) e = absurd (cc (e))
ended_fewer live more f (Over c b o) e = absurd (cc (e))

pub ends_fewer : (live more : List ℕ) → ((v : ℕ) → IsLive live v → IsLive more v)
    → (at after : Place → Slot) → Ended more at after → Ended live at after
ends_fewer live more f at after ended = record { each = λ q. go q (ended.each q) }
  where
    go : (q : Place) → Ends more (at q) (after q) → Ends live (at q) (after q)
    go q (inl e) = inl e
    go q (inr e) = inr (ended_fewer live more f (at q) e.0, e.1)

-- a purge's parts take nothing from their record
pub purge_same : (t u : ℕ) (x y : TableRow) (live : List ℕ) (n i : ℕ) (slots : List Slot)
    (pages : List (List Slot))
    → applied t x pages (purge_from live n i slots) ≡ applied u y pages (purge_from live n i slots)
purge_same t u x y live n i [] pages = refl
purge_same t u x y live n i (s ∷ slots) pages =
    go (is_ended live s) (λ ps. purge_same t u x y live n (i + 1) slots ps)
  where
    go : (b : Bool)
        → ((ps : List (List Slot))
        → applied t x ps (purge_from live n (i + 1) slots)
        ≡ applied u y ps (purge_from live n (i + 1) slots))
        → applied t x pages
        (if b then part_at (record { page = n; slot = i }) Op.Free ∷ purge_from live n (i + 1) slots
        else purge_from live n (i + 1) slots)
        ≡ applied u y pages
        (if b then part_at (record { page = n; slot = i }) Op.Free ∷ purge_from live n (i + 1) slots
        else purge_from live n (i + 1) slots)
    go true rest = rest (wrote pages (record { page = n; slot = i }) Free)
    go false rest = rest pages

-- past the end there is nothing to purge
index_past : (xs : List (List Slot)) (n : ℕ) → length xs ≤ n → slice_index_or xs n [] ≡ []
index_past [] zero l = refl
index_past [] (suc n) l = refl
index_past (x ∷ xs) zero l = absurd (omega (arith, l))
index_past (x ∷ xs) (suc n) l = index_past xs n (omega (arith, l))

pub page_past : (pages : List (List Slot)) (n : ℕ) → length pages < n → page_at pages n ≡ []
page_past pages n l = index_past ([] ∷ pages) n (omega (arith, l))
