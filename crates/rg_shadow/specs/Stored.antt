-- What is seen of a new copy, as a tuple of its fields.
use Rattle.std.specs.Prelude.{ℕ, List, refl}
use Rattle.std.specs.Coded.{Coded, code_by, coded×, coded_list, coded_ℕ}
use Rattle.std.specs.FinMap as map
use Rattle.rg_base.specs.contracts.place.Place as places
use Rattle.rg_map.specs.Mapping.{Targets}
use Rattle.rg_page.specs.Content.{Content}
use Rattle.rg_page.specs.contracts.page.Page as contents
use Rattle.rg_shadow.specs.Shade.{Shade}
use Rattle.rg_shadow.specs.contracts.drafts.IndexStage as stages
use Rattle.rg_shadow.specs.declared.drafts.IndexStage.{IndexStage}

-- the stages of the three indexes
abbrev pub Stages : Type 0
Stages = IndexStage × (IndexStage × IndexStage)

-- the copy and its capacity, the pages, the targets, and the stages
abbrev pub Fields : Type 0
Fields = (ℕ × ℕ) × (List Content × (Targets × Stages))

-- it is stored as these
abbrev pub shade_code : Coded Shade
shade_code =
    code_by Fields
    (coded× (coded× coded_ℕ coded_ℕ)
    (coded× (coded_list contents.the_row.coded)
    (coded× (map.code places.the_row.coded places.the_row.coded)
    (coded× stages.the_row.coded (coded× stages.the_row.coded stages.the_row.coded)))))
    (λ s. ((s.copy, s.capacity), (s.pages, (s.targets, (s.keys, (s.cluses, s.cats))))))
    (λ f. record {
      copy = f.0.0;
      capacity = f.0.1;
      pages = f.1.0;
      targets = f.1.1.0;
      keys = f.1.1.1.0;
      cluses = f.1.1.1.1.0;
      cats = f.1.1.1.1.1;
    })
    (λ _. refl)
