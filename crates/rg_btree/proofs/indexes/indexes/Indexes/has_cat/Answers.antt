use Rattle.std.proofs.Common.{ℕ, sym, ap, ◌∙◌}
use Rattle.rg_base.specs.declared.place.Place.{Place}
use Rattle.rg_index.specs.RisingPart.{IsRising-rising_part}
use Rattle.rg_btree.proofs.IndexesLemmas.From.{is_at, has-found}
use Rattle.rg_btree.proofs.indexes.indexes.Indexes.has_cat.Goals as goal
use Rattle.rg_btree.specs.Indexes.Listings.{entries_of}

pub returns-in-Some : goal.returns-in-Some
returns-in-Some c =
    let e : ℕ × Place = (c.args.cat, c.args.home) in
    c.is_same.ensures ∙ ap (is_at e) (sym c.in-Some.is ∙ c.first_from.ensures)
    ∙ has-found e (entries_of c.args.self.now.cats)
    (IsRising-rising_part c.args.self.now.cats.entries)

pub returns-in-None : goal.returns-in-None
returns-in-None c =
    let e : ℕ × Place = (c.args.cat, c.args.home) in
    ap (is_at e) (sym c.in-None.is ∙ c.first_from.ensures)
    ∙ has-found e (entries_of c.args.self.now.cats)
    (IsRising-rising_part c.args.self.now.cats.entries)
