-- One line further in a schema text.
use Rattle.std.proofs.Common.{ℕ, List, [], ◌∷◌, ◌++◌, ◌≡◌, ◌+◌, ◌≤◌, refl, true, false, Ok, Bor, min, arith}
use Rattle.std.proofs.lemmas.List.{map-append}
use Rattle.std.specs.BTreeSet.{Updates}
use Rattle.nt_types.specs.ShapeData.{ShapeData}
use Rattle.nt_types.specs.Views.{member_view}
use Rattle.nt_types.specs.Seen.{slices_cmp}
use Rattle.nt_types.specs.Lines.{is_blank_line}
use Rattle.nt_types.specs.Schema as schema
use Rattle.nt_types.specs.Schema.{part_under, field_of, field_count, take_line, next_line, with_field}
use Rattle.nt_types.specs.ProgressViews.{Follows}
use Rattle.nt_types.specs.declared.progress.Progress.{Progress}
use Rattle.nt_types.specs.declared.shape.Member.{Member}
use Rattle.nt_types.proofs.Seen.{Knows-insert}

-- a line that is skipped
pub skipped : (p : Progress) (s : schema.ProgressData) (line : List ℕ) → is_blank_line line ≡ true → Follows p s
    → (t : schema.ProgressData) × (take_line s line ≡ Ok t) × Follows p t
skipped p s line e f = (next_line s, rw e refl, record { seen = f.seen; count = f.count; parts = f.parts })

-- a line that has a field
pub taken : (before after : Progress) (s : schema.ProgressData) (line : List ℕ) (name : Bor (List ℕ)) (k : ShapeData) (m : Member)
    → is_blank_line line ≡ false → Follows before s
    → field_of s.seen before.count line ≡ Ok (part_under name.now k) → before.count + field_count k ≤ 4096
    → member_view m ≡ part_under name.now k
    → after.members.items ≡ before.members.items ++ m ∷ [] → Updates slices_cmp before.seen after.seen name true
    → after.count ≡ min 4097 (before.count + field_count k)
    → (t : schema.ProgressData) × (take_line s line ≡ Ok t) × Follows after t
taken before after s line name k m e f read few view members seen count =
    let read' : field_of s.seen s.count line ≡ Ok (part_under name.now k) = rw (← f.count) read in (
      with_field s (part_under name.now k),
      rw (e, read') refl,
      record {
        seen = Knows-insert before.seen after.seen s.seen name f.seen seen;
        count = (let c : before.count ≡ s.count = f.count in omega arith);
        parts = rw (members, map-append member_view before.members.items (m ∷ []), f.parts, view) refl;
      },
    )
