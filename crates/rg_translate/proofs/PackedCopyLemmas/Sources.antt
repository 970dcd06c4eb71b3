-- The rows at the homes of a new copy are a table where the rows of its sources are.
use Rattle.std.proofs.Common.{◌≡◌, ℕ, Option, Some, None, is_some, sym, ◌∙◌, ap}
use Rattle.std.proofs.lemmas.Option.{same_Some}
use Rattle.rg_base.specs.declared.place.Place.{Place}
use Rattle.rg_base.specs.declared.row.Row.{Row}
use Rattle.rg_home.specs.Table.{IsTable}
use Rattle.rg_reload.specs.Moved.{row_through}
use Rattle.rg_shadow.specs.Pieces.{IsMapped}
use Rattle.rg_shadow.specs.Shade.{Shade, home_rows, source_rows, target_of}

module _ (s : Shade) (rows : Place → Option Row) (keys : ℕ → Option Row)
    (mapped : IsMapped s.targets (home_rows s))
    (same : (place : Place) → source_rows s place ≡ rows place) (is : IsTable rows keys) where
  -- the source of a row at home
  record FromSource (home : Place) (row : Row) : Type 0 where
    pub source : Place
    pub target : target_of s source ≡ Some home
    pub row_is : rows source ≡ Some row

  from_source : (home : Place) (row : Row) → home_rows s home ≡ Some row → FromSource home row
  from_source home row e =
      let at = mapped.sources home (ap is_some e) in
      record {
        source = at.0;
        target = at.1;
        row_is = sym (same at.0) ∙ ap (row_through (home_rows s)) at.1 ∙ e;
      }

  -- where a source has a row, the row is at home at its target
  record AtTarget (row : Row) : Type 0 where
    pub home : Place
    pub row_is : home_rows s home ≡ Some row

  at_target : (source : Place) (row : Row) → rows source ≡ Some row → AtTarget row
  at_target source row e = go (target_of s source) (same source ∙ e)
    where
      go : (o : Option Place) → row_through (home_rows s) o ≡ Some row → AtTarget row
      go None f = absurd (cc (f))
      go (Some home) f = record { home = home; row_is = f }

  pub sources_are : IsTable (home_rows s) keys
  sources_are = record {
    there = λ p row e. let from = from_source p row e in is.there from.source row from.row_is;
    placed = λ k row e.
        let at = is.placed k row e in
        let to = at_target at.1 row at.2 in
        (at.0, to.home, to.row_is);
    once = λ p q row other e f keys_same.
        let one = from_source p row e in
        let two = from_source q other f in
        same_Some p q
        (sym one.target
        ∙ ap (target_of s) (is.once one.source two.source row other one.row_is two.row_is keys_same)
        ∙ two.target);
  }
