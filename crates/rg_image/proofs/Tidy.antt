-- A tidy log whose pages follow the rule spells their records, and what spells records is tidy.
use Rattle.std.proofs.Common.{◌≡◌, ⊎_elim, ℕ, ◌+◌, ◌<◌, ◌≤◌, List, [], ◌∷◌, refl, sym, ◌∙◌, ap}
use Rattle.std.proofs.Common.{arith}
use Rattle.std.proofs.lemmas.Bool.Decides.{leb_tells}
use Rattle.rg_outside.specs.Calls.{Image}
use Rattle.rg_record.specs.declared.record.Record.{Record}
use Rattle.rg_image.specs.Form.{IsOpened}
use Rattle.rg_image.specs.Log.{Spells}
use Rattle.rg_image.specs.Pack.{start, on_page}
use Rattle.rg_image.specs.Page.{page_bytes}
use Rattle.rg_image.specs.Rules.{HasLogPages, IsTidyLog}
use Rattle.rg_image.proofs.Pack.{none_above}
use Rattle.rg_image.proofs.Rules.{known}
use Rattle.rg_image.proofs.Start.{last_page}

-- no record stands after the last page
pub none_after : (rs : List Record) (from page p : ℕ) → IsOpened rs from page → page < p
    → on_page p start rs ≡ []
none_after [] from page p is past = refl
none_after (r ∷ rs) from page p is past =
    let low : 1 ≤ page =
    ⊎_elim (λ le. le.1) (λ lt. absurd (cc (is.none (omega (arith, lt.1))))) (leb_tells 1 page) in
    none_above p start (r ∷ rs)
    (omega (
      arith,
      past,
      last_page (r ∷ rs) from page (is.begins low) is.fit (is.there low) (is.whole low),
    ))

pub tidy_spells : (capacity : ℕ) (i : Image) (rs : List Record) → HasLogPages capacity i rs
    → IsTidyLog capacity i → Spells capacity rs i
unfolding page_bytes
tidy_spells capacity i rs has tidy p low high =
    let k = known i has.pages rs has.are in
    ⊎_elim
    (λ on. k.spells p low on.1)
    (λ past. let after : has.pages < p = omega (arith, past.1) in
    tidy (has.pages + 1) p (omega arith) (omega (arith, after)) high
    (has.stop (omega (arith, after, high)))
    ∙ ap (page_bytes p) (sym (none_after rs k.from has.pages p k.opened after)))
    (leb_tells p has.pages)
