-- The bytes of the files of a host are bytes.
use Rattle.std.proofs.Common.{◌≡◌, ◌∙◌, sym, subst, ℕ, ◌<◌, ◌^◌, Bool, true, false, cond, List, [], ◌∷◌, map, reverse, Option, Some, None}
use Rattle.std.specs.Prelude.{All}
use Rattle.std.specs.Option.{option_map}
use Rattle.std.specs.Ordering.{nat_cmp}
use Rattle.std.specs.String.{string_bytes}
use Rattle.std.specs.Cmp.Lexicographic.{slice_cmp, nat_list_cmp_total}
use Rattle.std.specs.FinMap as fin
use Rattle.std.specs.FinMap.{get-insert, get-empty}
use Rattle.nt_outside.specs.World.{World, Stored, file}
use Rattle.nt_memory.specs.declared.named.NamedFile.{NamedFile}
use Rattle.nt_memory.specs.declared.host.MemHost.{MemHost}
use Rattle.nt_memory.specs.Named.{kept, entry}
use Rattle.nt_memory.specs.Host.{state_of, world_of}

abbrev Fit : List ℕ → Type 0
Fit bytes = All (λ (b : ℕ). b < 2 ^ 8) bytes

abbrev bytes_under : Option Stored → Option (List ℕ)
bytes_under found = option_map (λ (s : Stored). s.bytes) found

list_is : (x y : List ℕ) → Some x ≡ Some y → x ≡ y
list_is x y e = cc

world_is : (x y : World) → Some x ≡ Some y → x ≡ y
world_is x y e = cc

none_is : (found : Option Stored) (told : List ℕ) → found ≡ None → bytes_under found ≡ Some told → ⊥
none_is found told none is = cc

by_name : (b : Bool) (f : NamedFile) (rest : Option Stored) (told : List ℕ) → (bytes_under rest ≡ Some told → Fit told)
    → bytes_under (cond b (Some (kept f)) rest) ≡ Some told → Fit told
by_name true f rest told h is = subst Fit (list_is f.bytes.items told is) f.fit
by_name false f rest told h is = h is

fits_all : (files : List NamedFile) (name told : List ℕ)
    → bytes_under (fin.get {R = slice_cmp nat_cmp} (fin.from_entries (map entry files)) name) ≡ Some told → Fit told
fits_all [] name told is = absurd (none_is _ told (get-empty (slice_cmp nat_cmp) name) is)
fits_all (f ∷ files) name told is =
    by_name _ f _ told (fits_all files name told) (subst (λ (found : Option Stored). bytes_under found ≡ Some told)
    (get-insert nat_list_cmp_total (fin.from_entries (map entry files)) (string_bytes f.name) (kept f) name) is)

-- each byte of a host's files is one
pub fit_of : (h : MemHost) (w : World) (name told : List ℕ) → (state_of h).world ≡ Some w → file w name ≡ Some told
    → All (λ (b : ℕ). b < 2 ^ 8) told
fit_of h w name told is here =
    fits_all (reverse h.files.items) name told
    (subst (λ (v : World). file v name ≡ Some told) (sym (world_is (world_of h) w is)) here)
