use Rattle.std.proofs.Common.{◌≡◌, ◌∙◌, ◌++◌, ◌∷◌, [], List, ap, sym, subst, length, length-append}
use Rattle.std.proofs.Common.{arith}
use Rattle.rg_page.specs.Content.{Content}
use Rattle.rg_reload.specs.Pages.{HasRows}
use Rattle.rg_reload.proofs.Copies.{rows-pad}
use Rattle.rg_reload.proofs.pad.add_empty.Goals as goal

pub loop-alloc-preserved : goal.loop-alloc-preserved
loop-alloc-preserved c =
    let i = c.loop-alloc.invariant in
    let page = c.in_ok-page.page in
    let added : c.push.new.self.pages.items ≡ c.loop-alloc.frames.pages.items ++ page ∷ [] =
    c.in_ok-push.ensures.ok in
    record {
      copy = c.push.ensures.copy_same ∙ i.copy;
      few = omega (
        arith,
        ap length added,
        length-append c.loop-alloc.frames.pages.items (page ∷ []),
        c.loop-alloc-test.true,
        c.count.ensures,
      );
      reserved = c.push.ensures.reserved ∙ i.reserved;
      rows = λ rows h. subst (λ (pages : List Content). HasRows pages rows) (sym added)
          (rows-pad c.loop-alloc.frames.pages.items page rows
          (ap (λ (p : Content). p.position) c.in_ok-page.ensures)
          (ap (λ (p : Content). p.slots) c.in_ok-page.ensures) (i.rows rows h));
    }
