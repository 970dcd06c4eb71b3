-- A page of the summaries is set, as the code does it.
use Rattle.std.proofs.Common.{◌≡◌, ◌≤◌, ◌-◌, List, get_or, set, sym, ◌∙◌, ap, length, arith}
use Rattle.rg_home.specs.Slot.{Slot}
use Rattle.rg_base.specs.declared.place.Place.{Place}
use Rattle.rg_home.specs.Slots.{placed}
use Rattle.rg_home.specs.Pages.{wrote}
use Rattle.rg_home.proofs.PageLists.{wrote-set, page_at-get}

pub set_wrote : (pages now : List (List Slot)) (p : Place) (s : Slot) (d was after : List Slot)
    → 1 ≤ p.page → p.page ≤ length now → pages ≡ now → was ≡ get_or pages (p.page - 1) d
    → after ≡ placed was p.slot s → set pages (p.page - 1) after ≡ wrote now p s
set_wrote pages now p s d was after low high view e f =
    let h : p.page ≤ length pages = omega (arith, ap length view) in
    ap (set pages (p.page - 1))
    (f ∙ ap (λ (x : List Slot). placed x p.slot s) (e ∙ page_at-get pages p.page d low h))
    ∙ sym (wrote-set pages p.page p.slot s low h)
    ∙ ap (λ (ps : List (List Slot)). wrote ps p s) view
