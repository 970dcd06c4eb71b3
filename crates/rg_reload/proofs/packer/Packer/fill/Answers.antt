use Rattle.std.proofs.Common.{◌≡◌, ◌∙◌, ◌≤◌, ◌<◌, ◌+◌, ◌++◌, ◌∷◌, [], ℕ, sym, ap, subst, length}
use Rattle.std.proofs.Common.{take, drop, arith}
use Rattle.rg_home.proofs.Slots.{used-length}
use Rattle.rg_home.specs.Slots.{Fits, used}
use Rattle.rg_model.specs.Packed.{page_at, page_count}
use Rattle.rg_page.specs.Content.{Content}
use Rattle.rg_reload.specs.Moved.{moved_on, packed_rows, page_taken, pairs_of}
use Rattle.rg_reload.specs.Pages.{page_of, row_slots, slots_on}
use Rattle.rg_reload.specs.Reloading.{Reloading, Fills, IsReloading, reloading_at, placed_rows}
use Rattle.rg_reload.specs.Reloading.{rows_left}
use Rattle.rg_reload.specs.declared.packer.NewCopy.{NewCopy}
use Rattle.rg_reload.specs.declared.packer.NewCopy.TheVariants.{Filling}
use Rattle.rg_reload.proofs.Filled.{AddsPage, PageRows, page_added, page_rows}
use Rattle.rg_reload.proofs.Numbers.{page_at-next, page_count-more}
use Rattle.rg_reload.proofs.Steps.{length-placed}
use Rattle.rg_reload.proofs.Taken.{length-row_slots}
use Rattle.rg_reload.proofs.packer.Packer.fill.Goals as goal

pub overflow_add-number : goal.overflow_add-number
overflow_add-number c =
    let within =
    subst (λ (v : Reloading). page_count v.options.freepage (v.filled + 1) ≤ v.capacity)
    (sym c.self.view_is) c.requires.within in
    omega (
      arith,
      within,
      c.count_pages-before.ensures,
      page_count-more c.self.inside.options.freepage c.self.inside.filled,
    )

pub add_pairs-requires-clause-few : goal.add_pairs-requires-clause-few
add_pairs-requires-clause-few c =
    omega (
      arith,
      used-length (row_slots c.split_at-2.result.0.now),
      length-row_slots c.split_at-2.result.0.now,
      c.count_taken-count.ensures.fits,
      ap (λ rows. used (row_slots rows)) c.split_at-2.ensures.front,
    )

pub add_pairs-requires-clause-room : goal.add_pairs-requires-clause-room
add_pairs-requires-clause-room c =
    let inside = c.self.inside in
    omega (
      arith,
      inside.pairs.ok.0,
      ap length c.self.invariant.pairs_are,
      c.self.invariant.room,
      c.split_at-2.ensures.front_len,
      c.count_taken-count.ensures.high,
      c.split_at.ensures.back_len,
      c.deref.ensures.value,
      ap length c.deref.ensures.value,
      length-placed inside.options inside.rows.items inside.count c.self.invariant.few,
    )

pub invariant_of-self-2 : goal.invariant_of-self-2
invariant_of-self-2 c =
    let inside = c.self.inside in
    let pairs = c.add_pairs.new.pairs in
    let e : inside.made ≡ Filling c.in-Filling.frames =
    sym c.replace.ensures.value ∙ c.in-Filling.is in
    let p : Reloading = reloading_at inside.copy inside.capacity inside.options inside.rows.items
    inside.count inside.filled (Filling c.in-Filling.frames) in
    let i : IsReloading p inside.pairs (Filling c.in-Filling.frames) =
    subst
    (λ (s : NewCopy). IsReloading
    (reloading_at inside.copy inside.capacity inside.options inside.rows.items inside.count
    inside.filled s) inside.pairs s) e c.self.invariant in
    let left : c.split_at.result.1.now ≡ rows_left p =
    c.split_at.ensures.back ∙ ap (drop inside.count) c.deref.ensures.value in
    let count : c.count_taken-count.result ≡ page_taken inside.options (rows_left p) =
    c.count_taken-count.ensures.count ∙ ap (page_taken inside.options) left in
    let taken : c.split_at-2.result.0.now
    ≡ take (page_taken inside.options (rows_left p)) (rows_left p) =
    c.split_at-2.ensures.front ∙ ap (λ n. take n c.split_at.result.1.now) count
    ∙ ap (take (page_taken inside.options (rows_left p))) left in
    let before : c.count_pages-before.result ≡ page_count inside.options.freepage inside.filled =
    c.count_pages-before.ensures in
    let within =
    subst (λ (v : Reloading). page_count v.options.freepage (v.filled + 1) ≤ v.capacity)
    (sym c.self.view_is) c.requires.within in
    let rest =
    subst (λ (v : Reloading). v.count < length v.rows) (sym c.self.view_is) c.requires.rest in
    let page : c.in_ok-page.page
    ≡ page_of inside.copy (page_count inside.options.freepage inside.filled + 1)
    (row_slots (take (page_taken inside.options (rows_left p)) (rows_left p))) =
    c.in_ok-page.ensures
    ∙ ap (λ n. page_of inside.copy (n + 1) (row_slots c.split_at-2.result.0.now)) before
    ∙ ap
    (λ rows. page_of inside.copy (page_count inside.options.freepage inside.filled + 1)
    (row_slots rows)) taken in
    let adds : AddsPage p inside.pairs pairs c.add_empty.new.frames.pages.items c.push.new.self =
    record {
      rest = rest;
      within = within;
      count = c.in_ok-add_empty.ensures.count ∙ before;
      rows = c.add_empty.ensures.rows (placed_rows p) i.made_is.rows_are;
      page = c.in_ok-push.ensures.ok
          ∙ ap (λ page. c.add_empty.new.frames.pages.items ++ page ∷ []) page;
      fits = subst Fits
          (ap (λ rows. row_slots rows)
          (ap (λ rows. take c.count_taken-count.result rows) left
          ∙ ap (λ n. take n (rows_left p)) count)) c.count_taken-count.ensures.fits;
      copy = c.push.ensures.copy_same ∙ c.add_empty.ensures.copy_same;
      reserved = c.push.ensures.reserved ∙ c.add_empty.ensures.reserved;
      pairs_are = c.add_pairs.ensures.pairs
          ∙ ap (λ n. inside.pairs.items ++ pairs_of (moved_on (n + 1) 0 c.split_at-2.result.0.now))
          before
          ∙ ap
          (λ rows. inside.pairs.items
          ++ pairs_of (moved_on (page_count inside.options.freepage inside.filled + 1) 0 rows))
          taken;
      room = c.add_pairs.ensures.capacity;
    } in
    subst
    (λ (n : ℕ). IsReloading (record p { count = inside.count + n; filled = inside.filled + 1 })
    pairs (Filling c.push.new.self)) (sym count)
    (page_added p inside.pairs pairs (Filling c.in-Filling.frames)
    c.add_empty.new.frames.pages.items c.push.new.self i adds)

pub returns-clause-ok : goal.returns-clause-ok
returns-clause-ok c =
    let inside = c.self.inside in
    let e : inside.made ≡ Filling c.in-Filling.frames =
    sym c.replace.ensures.value ∙ c.in-Filling.is in
    let left : c.split_at.result.1.now ≡ drop inside.count inside.rows.items =
    c.split_at.ensures.back ∙ ap (drop inside.count) c.deref.ensures.value in
    let count : c.count_taken-count.result
    ≡ page_taken inside.options (drop inside.count inside.rows.items) =
    c.count_taken-count.ensures.count ∙ ap (page_taken inside.options) left in
    let rows : c.slot_count-rows.result ≡ c.count_taken-count.result =
    c.slot_count-rows.ensures.count ∙ ap (λ (p : Content). length p.slots) c.in_ok-page.ensures
    ∙ length-row_slots c.split_at-2.result.0.now ∙ c.split_at-2.ensures.front_len in
    let view : (n : ℕ) (s : NewCopy) → Reloading = λ n s. reloading_at inside.copy inside.capacity
    inside.options inside.rows.items (inside.count + n) (inside.filled + 1) s in
    let p : Reloading = reloading_at inside.copy inside.capacity inside.options inside.rows.items
    inside.count inside.filled (Filling c.in-Filling.frames) in
    let i : IsReloading p inside.pairs (Filling c.in-Filling.frames) =
    subst
    (λ (s : NewCopy). IsReloading
    (reloading_at inside.copy inside.capacity inside.options inside.rows.items inside.count
    inside.filled s) inside.pairs s) e c.self.invariant in
    let rest =
    subst (λ (v : Reloading). v.count < length v.rows) (sym c.self.view_is) c.requires.rest in
    let it : PageRows p = page_rows p inside.pairs c.in-Filling.frames rest i in
    let page : c.count_pages-before.result + 1
    ≡ page_at inside.options.freepage (inside.filled + 1) =
    ap (λ n. n + 1) c.count_pages-before.ensures
    ∙ sym (page_at-next inside.options.freepage inside.filled) in
    let taken : c.slot_count-rows.result ≡ page_taken inside.options (rows_left p) = rows ∙ count in
    subst (λ (v : Reloading). Fills v
    (record { page = c.count_pages-before.result + 1; rows = c.slot_count-rows.result })
    (view c.count_taken-count.result (Filling c.push.new.self))) c.self.view_is
    (record {
      rest = rest;
      within = subst (λ (v : Reloading). page_count v.options.freepage (v.filled + 1) ≤ v.capacity)
          (sym c.self.view_is) c.requires.within;
      page = page;
      rows = taken;
      reloading = ap (λ n. view n (Filling c.push.new.self)) (sym rows)
          ∙ ap (view c.slot_count-rows.result) (sym e);
      placed =
          ap (λ n. take (inside.count + n) (packed_rows inside.options inside.rows.items)) count
          ∙ it.placed
          ∙ ap
          (λ n. placed_rows p
          ++ moved_on n 0 (take (page_taken inside.options (rows_left p)) (rows_left p))) (sym page)
          ∙ ap
          (λ n. placed_rows p
          ++ moved_on (c.count_pages-before.result + 1) 0 (take n (rows_left p))) (sym taken);
      on_page = ap (λ n. length (slots_on n (packed_rows inside.options inside.rows.items))) page
          ∙ it.on_page ∙ sym taken;
    })
