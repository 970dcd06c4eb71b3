-- A new copy in the making, of the rows of all copies.
use Rattle.std.proofs.Common.{◌≡◌, ◌≤◌, ◌+◌, ◌*◌, min, ℕ, List, [], sym, ◌∙◌, ap, subst, arith}
use Rattle.std.specs.List.Sorted.{IsPermutation}
use Rattle.rg_base.specs.declared.options.Options.{Options}
use Rattle.rg_base.specs.declared.place.Place.{Place}
use Rattle.rg_base.specs.declared.row.Row.{Row}
use Rattle.rg_translate.specs.RightCopy.Caught.{IsCaughtUp}
use Rattle.rg_translate.proofs.RightCopyLemmas.Taking.{batch_taken, full_sent, loaded}
use Rattle.rg_feed.specs.Ends.{Received}
use Rattle.rg_feed.specs.Fold.Fold.{fold_to, copied_rows, page_copies, since_begin}
use Rattle.rg_feed.specs.Fold.Lawful.{AreApart, Lawful}
use Rattle.rg_feed.specs.declared.fold.item.Item.{Item}
use Rattle.rg_feed.proofs.FoldLemmas.Loaded.{copies_apart}
use Rattle.rg_translate.specs.Load.Loaded.{IsLoaded, IsPacked}
use Rattle.rg_map.specs.Mapping.{Targets}
use Rattle.rg_page.specs.Content.{Content}
use Rattle.rg_laws_utility.specs.CopyWeight.Weighed.{weigh_feed}
use Rattle.rg_reload.specs.Order.{IsInOrder}
use Rattle.rg_reload.specs.Reloading.{Reloading}
use Rattle.rg_shadow.specs.Pieces.{IsMapped}
use Rattle.rg_shadow.specs.Shade.{Shade, home_rows}
use Rattle.rg_shadow.specs.declared.fault.ShadowFault.{ShadowFault}
use Rattle.rg_shadow.specs.declared.fault.ShadowFault.TheVariants.{NoMemory, NoSpace}
use Rattle.rg_translate.specs.Backlog.{left, next_changes, to_make}
use Rattle.rg_translate.specs.Caught.{Caught, ClaimsMore, IsFullBy, Unmoved}
use Rattle.rg_translate.proofs.Replaying.{copied_rows-copies}
use Rattle.rg_phase.specs.Drafted.{IsDraftOf, IsFullOf, IsPackingOf, SameRows}

-- the rows of the copies that were received
pub rows_apart : (items copies : List Item) (rows : List (Place × Row)) → Lawful (since_begin items)
    → copies ≡ page_copies (since_begin items) → rows ≡ copied_rows copies → AreApart rows
rows_apart items copies rows lawful copies_are rows_are =
    subst AreApart
    (sym (rows_are ∙ ap copied_rows copies_are ∙ copied_rows-copies (since_begin items)))
    (copies_apart (since_begin items) lawful)

pub packing_begun : (options : Options) (p : Reloading) (items copies : List Item) (taken : ℕ)
    (rows : List (Place × Row))
    → taken ≡ 0 → copies ≡ page_copies (since_begin items) → rows ≡ copied_rows copies
    → IsPermutation rows p.rows → IsInOrder p.rows → p.options ≡ options
    → IsPackingOf options p items taken
packing_begun options p items copies taken rows none copies_are rows_are moved order by = record {
  options_are = by;
  moved = subst (λ (rs : List (Place × Row)). IsPermutation rs p.rows)
      (rows_are ∙ ap copied_rows copies_are ∙ copied_rows-copies (since_begin items)) moved;
  order = order;
  none = none;
}

pub draft_loaded : (options : Options) (p q : Reloading) (items : List Item) (taken : ℕ) (s : Shade)
    → Lawful (since_begin items) → IsPackingOf options p items taken → q.rows ≡ p.rows
    → q.options ≡ p.options → IsLoaded q s → IsMapped s.targets (home_rows s)
    → IsDraftOf options s items taken
draft_loaded options p q items taken s lawful packing rows by is mapped =
    let packed = subst (λ (o : Options). IsPacked o p.rows s) (by ∙ packing.options_are)
    (subst (λ (rs : List (Place × Row)). IsPacked q.options rs s) rows is.rows) in
    record {
      rows = p.rows;
      first = s;
      moved = packing.moved;
      order = packing.order;
      caught = subst (IsCaughtUp options p.rows s s items) (sym packing.none)
          (loaded options p.rows s items lawful packing.moved packed mapped);
      within = omega (arith, packing.none);
    }

-- only how far the indexes are made has changed
rows_made : (options : Options) (rows : List (Place × Row)) (first old new : Shade)
    (items : List Item) (taken : ℕ) → IsCaughtUp options rows first old items taken
    → IsCaughtUp options rows first (record new { pages = old.pages; targets = old.targets }) items
    taken
rows_made options rows first old new items taken h = record {
  loaded = h.loaded;
  mapped = h.mapped;
  unmoved = record { rows = h.unmoved.rows; targets = h.unmoved.targets; lie = h.unmoved.lie };
  caught = h.caught;
  claims = h.claims;
  idle = h.idle;
}

pub draft_same : (options : Options) (old new : Shade) (items : List Item) (taken : ℕ)
    → SameRows old new → IsDraftOf options old items taken → IsDraftOf options new items taken
draft_same options old new items taken same h = record {
  rows = h.rows;
  first = h.first;
  moved = h.moved;
  order = h.order;
  caught =
      subst
      (λ (pages : List Content). IsCaughtUp options h.rows h.first (record new { pages = pages })
      items taken) (sym same.pages) (subst
      (λ (targets : Targets). IsCaughtUp options h.rows h.first
      (record new { pages = old.pages; targets = targets }) items taken) (sym same.targets)
      (rows_made options h.rows h.first old new items taken h.caught));
  within = h.within;
}

min_most : (m n : ℕ) → min m n ≤ n
min_most m n = omega (arith)

-- the next changes are made
pub draft_taken : (options : Options) (old new : Shade) (inlet later : Received) (most n : ℕ)
    → IsDraftOf options old inlet.items inlet.taken → n ≡ min most (left inlet)
    → later.taken ≡ inlet.taken + n → later.items ≡ inlet.items → Caught new later
    → Unmoved old new (next_changes (min most (left inlet)) inlet)
    → ClaimsMore old new (to_make (min most (left inlet)) inlet)
    → (to_make (min most (left inlet)) inlet ≡ [] → new ≡ old)
    → IsMapped new.targets (home_rows new)
    → IsDraftOf options new later.items later.taken
draft_taken options old new inlet later most n h n_is taken items caught unmoved claims idle
    mapped =
    let k = min most (left inlet) in
    let taken_is : later.taken ≡ inlet.taken + k = taken ∙ ap (λ (m : ℕ). inlet.taken + m) n_is in
    subst (λ (xs : List Item). IsDraftOf options new xs later.taken) (sym items)
    (subst (IsDraftOf options new inlet.items) (sym taken_is)
    (record {
      rows = h.rows;
      first = h.first;
      moved = h.moved;
      order = h.order;
      caught = batch_taken options h.rows h.first old new inlet.items inlet.taken k h.caught mapped
          (λ place. caught place ∙ ap (λ (xs : List Item). fold_to xs later.taken place) items
          ∙ ap (λ (m : ℕ). fold_to inlet.items m place) taken_is)
          unmoved claims idle;
      within = omega (arith, h.within, min_most most (left inlet));
    }))

-- one of them has no room
pub draft_full :
    (options : Options) (s : Shade) (inlet : Received) (most capacity : ℕ) (fault : ShadowFault)
    → IsDraftOf options s inlet.items inlet.taken → s.capacity ≡ capacity
    → IsFullBy s (to_make (min most (left inlet)) inlet) fault
    → IsFullOf capacity (weigh_feed inlet.items) fault
draft_full options s inlet most capacity NoSpace h same full =
    subst (λ (n : ℕ). 3221 * n ≤ weigh_feed inlet.items) same
    (full_sent options h.rows h.first s inlet.items inlet.taken (min most (left inlet)) h.moved
    h.caught full)
draft_full options s inlet most capacity NoMemory h same full = tt
