-- Items that are shown the same are the same.
use Rattle.std.proofs.Common.{◌≡◌, refl, sym, ap, ◌∙◌}
use Rattle.ibx_time.specs.Items.{Item, Portions, NoPortion, One, OneBad, Two, TwoBad}
use Rattle.ibx_views.specs.declared.time_view.Portions.{Portions as Shown}
use Rattle.ibx_views.specs.declared.time_view.Portions.TheVariants.{Nothing, Single, SingleError, Double, DoubleError}
use Rattle.ibx_views.specs.declared.time_view.ItemView.{ItemView}
use Rattle.ibx_views.specs.TimeViews.{item_view, portions_view}

-- the portions that are shown so
abbrev portions_back : Shown → Portions
portions_back Nothing = NoPortion
portions_back Single = One
portions_back SingleError = OneBad
portions_back Double = Two
portions_back DoubleError = TwoBad

-- the item that is shown so
abbrev item_back : ItemView → Item
item_back i = record {
  parcels = i.parcels;
  portions = portions_back i.portions;
  cost = i.cost;
  sleeps = i.sleeps;
  redirects = i.redirects;
  fences = i.fences;
}

-- portions are those that they are shown as
back_portions : (p : Portions) → portions_back (portions_view p) ≡ p
back_portions NoPortion = refl
back_portions One = refl
back_portions OneBad = refl
back_portions Two = refl
back_portions TwoBad = refl

-- and so are items
back_item : (i : Item) → item_back (item_view i) ≡ i
back_item i = ap (λ (p : Portions). record i { portions = p }) (back_portions i.portions)

-- so items that are shown the same are the same
pub same_items : (i j : Item) → item_view i ≡ item_view j → i ≡ j
same_items i j e = sym (back_item i) ∙ ap item_back e ∙ back_item j
