-- An entry that is added.
use Rattle.std.proofs.Common.{◌≡◌, ℕ, List, sym, subst, arith}
use Rattle.nt_types.specs.TreeData.{TreesData}
use Rattle.nt_column.specs.Column.{Buffer, columns_of}
use Rattle.nt_plans.specs.Plan.{PlansData}
use Rattle.nt_trees.specs.Sound.{AllSound}
use Rattle.nt_trees.specs.Put.{put_trees}
use Rattle.nt_trees.specs.Views.{cols_of}
use Rattle.nt_trees.proofs.Added.{each_added}
use Rattle.nt_shred.specs.Most.{most_of_any}
use Rattle.nt_shred.specs.Frame.{AllTake, FitsIn, HasRoomFor}
use Rattle.nt_shred.specs.Steps.{ReadyEach, IsEntry, IsLast}
use Rattle.nt_shred.proofs.Sets.{cols-kept, frame-kept}
use Rattle.nt_shred.proofs.Grown.{trees_add}

-- there is room for the columns with the entry
entry-room : (ps : PlansData) (ts : TreesData) (old new : List Buffer) (more : ℕ) → IsEntry ps ts old
    → columns_of new ≡ columns_of old → more ≡ most_of_any ts → HasRoomFor new more → FitsIn new (put_trees ps ts (cols_of new))
entry-room ps ts old new more e is same r = record {
  memory = λ k h. omega (arith, same, trees_add ps ts (cols_of new) e.differ k, r.memory k h);
  ends = λ k h. omega (arith, same, trees_add ps ts (cols_of new) e.differ k, r.ends k h);
}

pub entry-ready : (ps : PlansData) (ts : TreesData) (old new : List Buffer) (more : ℕ) → IsEntry ps ts old
    → columns_of new ≡ columns_of old → more ≡ most_of_any ts → HasRoomFor new more → ReadyEach ps ts new
entry-ready ps ts old new more e is same r = record {
  size = e.size;
  sound = subst (λ c. AllSound ps c e.size) (sym (cols-kept old new is)) e.sound;
  differ = e.differ;
  fitting = e.fitting;
  takes = subst (AllTake ps) (sym (frame-kept old new is)) e.takes;
  room = entry-room ps ts old new more e is same r;
}

pub entry-last : (ps : PlansData) (ts : TreesData) (old new : List Buffer) → IsEntry ps ts old
    → cols_of new ≡ put_trees ps ts (cols_of old) → (n : ℕ) → AllSound ps (cols_of old) n → IsLast ps ts n (cols_of new)
entry-last ps ts old new e added n s =
    let both = each_added ps ts (cols_of old) n e.differ s e.fitting in
    subst (IsLast ps ts n) (sym added) (record { sound = both.0; entry = both.1 })
