-- What is left of a host once the disk of a file is back.
use Rattle.std.proofs.Common.{◌≡◌, ◌≢◌, ◌∙◌, inl, inr, ap, sym, subst, refl, ℕ, List, [], ◌∷◌, ◌++◌, Option, Some, Result, Ok, Err}
use Rattle.std.proofs.Common.{arith}
use Rattle.std.specs.Option.{option_map}
use Rattle.std.proofs.lemmas.Map.Lookups.{exact_bytes}
use Rattle.std.specs.FinMap as map
use Rattle.std.specs.FinMap.{gets}
use Rattle.nt_types.specs.ShapeData.{MemberData}
use Rattle.nt_outside.specs.declared.stream.Stream.TheVariants.{ToOut}
use Rattle.nt_outside.specs.Log.{Step}
use Rattle.nt_outside.specs.Held.{Held, nothing_held}
use Rattle.nt_outside.specs.Order.{BeginsOpen}
use Rattle.nt_outside.specs.World.{World, Files, Stored, file, creates, keeps_disk, prints}
use Rattle.nt_book.specs.declared.params.Params.{Params}
use Rattle.nt_store.specs.declared.error.StoreError.{StoreError}
use Rattle.nt_store.specs.declared.error.StoreError.TheVariants.{Outside, Memory, Schema, Line, Limit}
use Rattle.nt_store.specs.Orders.{order_line, GainsOrderPart}
use Rattle.nt_store.specs.Texts.{AreTexts}
use Rattle.nt_store.specs.Worlds.{IsThereWith, OthersStay, IsLeftOpen, LeavesOpen, IsNeverBegun, IsWrittenInOrder, WritesInOrder}
use Rattle.nt_store.specs.Worlds.{IsLeftAfter}
use Rattle.nt_close.specs.Laws.{EndsOverFirst}
use Rattle.nt_store.specs.Stored.{StoresWhole, IsTooLarge, StoreTold}
use Rattle.nt_store.specs.Writing.{NeverBegan, PrintsOrderPart, LimitBy, PassesLimitOf, EndsWhole, FileTold, IsInOrderFrom}

-- a disk that came back is found under its name
pub stored_kept : (files : Files) (name : List ℕ) (s : Stored) → map.get (map.insert files name s) name ≡ Some s
stored_kept files name s = grind (arith, gets)

-- and leaves every other
stored_other : (files : Files) (name other : List ℕ) (s : Stored) → other ≢ name
    → map.get (map.insert files name s) other ≡ map.get files other
stored_other files name other s differs = grind (arith, gets, differs, exact_bytes other name)

-- what is found has a form that its bytes have
pub there : (P : List ℕ → Type 0) (found : Option (List ℕ)) (bytes : List ℕ) → found ≡ Some bytes → P bytes → IsThereWith P found
there P found bytes is has = subst (IsThereWith P) (sym is) has

pub file_kept : (out : List ℕ) (h : Held) (v : World) → file (keeps_disk out h v) out ≡ Some h.image
file_kept out h v =
    ap (λ (o : Option Stored). option_map (λ (s : Stored). s.bytes) o) (stored_kept v.files out (record {
      bytes = h.image;
      log = Some
          h.log;
    }))

-- a file that is open on the disk is so under its name
pub kept_open : (out : List ℕ) (h : Held) (v : World) → BeginsOpen h.image → IsLeftOpen out (keeps_disk out h v)
kept_open out h v begins = there BeginsOpen (file (keeps_disk out h v) out) h.image (file_kept out h v) begins

pub kept_never_begun : (out : List ℕ) (h : Held) (v : World) → NeverBegan h → IsNeverBegun out (keeps_disk out h v)
kept_never_begun out h v began = record {
  at = record { bytes = h.image; log = Some h.log };
  len = began.0;
  there = stored_kept v.files out (record { bytes = h.image; log = Some h.log });
  log = ap (λ (l : List Step). Some l) began.1;
}

-- and the steps of its disk
pub kept_steps : (Ends : List Step → Type 0) (out : List ℕ) (h : Held) (v : World) → Ends h.log → IsLeftAfter Ends out (keeps_disk out h v)
kept_steps Ends out h v ends = record {
  at = record { bytes = h.image; log = Some h.log };
  log = h.log;
  there = stored_kept v.files out (record { bytes = h.image; log = Some h.log });
  steps = refl;
  ends = ends;
}

pub others_kept : (out : List ℕ) (h : Held) (v : World) → OthersStay out v (keeps_disk out h v)
others_kept out h v other differs = stored_other v.files out other (record { bytes = h.image; log = Some h.log }) differs

-- a disk comes back under the name that it was made for
abbrev pub ComesBack : Option World → Option World → Option Held → Type 0
ComesBack world world' held = (name : List ℕ) (h : Held) (v : World) → world ≡ Some v → v.creating ≡ Some name → held ≡ Some h
    → world' ≡ Some (keeps_disk name h v)

-- what is left once the disk is back
abbrev pub IsBack : List ℕ → List ℕ → List (List ℕ) → Params → World → Option World → Result Unit StoreError → Type 0
IsBack out schema inputs p w world result =
    (w' : World) × (world ≡ Some w') × (w'.err ≡ w.err) × OthersStay out w w' × StoreTold out schema inputs p w w' result

module _ (out schema : List ℕ) (inputs : List (List ℕ)) (p : Params) (fields : List MemberData) (texts : List (List ℕ)) (w : World) (are
    : AreTexts w schema inputs fields texts) where
  -- the world once the disk is back, so much being printed
  abbrev after : List ℕ → Held → World
  after printed h = keeps_disk out h (prints ToOut printed (creates out w))

  others : (printed : List ℕ) (h : Held) → OthersStay out w (after printed h)
  others printed h = others_kept out h (prints ToOut printed (creates out w))

  -- what out gained of the line of an order
  gains : (world : Option World) (printed behind : List ℕ) (h : Held) → PrintsOrderPart fields p texts (creates out w) world printed behind
      → GainsOrderPart schema inputs p w (after printed h) printed behind
  gains world printed behind h part = record {
    fields = fields;
    texts = texts;
    are = are;
    order = part.order;
    of = part.of;
    line = part.line;
    gained = refl;
  }

  -- the file can't pass for finished
  leaves_open : (u : World) (h : Held) → u.created ≡ w.created ++ out ∷ [] → BeginsOpen h.image → LeavesOpen out w (keeps_disk out h u)
  leaves_open u h made begins = (made, kept_open out h u begins)

  -- and the limit is passed
  too_large : {By : LimitBy} (reached most : ℕ) → PassesLimitOf By fields p texts reached most
      → IsTooLarge By schema inputs p w reached most
  too_large reached most passes = record {
    fields = fields;
    texts = texts;
    are = are;
    table = passes.table;
    rows = passes.rows;
    over = passes.over;
    by = passes.by;
  }

  module _ (world world' : Option World) (held : Option Held) (keeps : ComesBack world world' held) where
    whole : (ends : EndsWhole fields p texts (creates out w) world held)
        → StoresWhole out schema inputs p w (after (order_line ends.order) ends.file.0)
    whole ends = record {
      fields = fields;
      texts = texts;
      are = are;
      made = refl;
      bytes = ends.file.0.image;
      file_is = file_kept out ends.file.0 (prints ToOut (order_line ends.order) (creates out w));
      order = ends.order;
      stored = ends.file.2;
      printed = refl;
    }

    -- nothing was printed before the disk came back
    back_same : (h : Held) (result : Result Unit StoreError) → world ≡ Some (creates out w) → held ≡ Some h
        → StoreTold out schema inputs p w (keeps_disk out h (creates out w)) result → IsBack out schema inputs p w world' result
    back_same h result is held-is told =
        (keeps_disk out h (creates out w), keeps out h _ is refl held-is, refl, others_kept out h (creates out w), told)

    -- or so much
    back_printed : (printed : List ℕ) (h : Held) (result : Result Unit StoreError) → world ≡ Some (prints ToOut printed (creates out w))
        → held ≡ Some h → StoreTold out schema inputs p w (after printed h) result → IsBack out schema inputs p w world' result
    back_printed printed h result is held-is told = (after printed h, keeps out h _ is refl held-is, refl, others printed h, told)

    -- what the writing of a file leaves
    pub out_told : (result : Result Unit StoreError) → FileTold fields p texts (creates out w) world held result
        → IsBack out schema inputs p w world' result
    out_told (Ok value) ends = back_printed (order_line ends.order) ends.file.0 (Ok value) ends.printed ends.file.1 (whole ends)
    out_told (Err Outside) (inl (is, (h, held-is, inl begins))) =
        back_same h (Err Outside) is held-is (inl (inr (refl, inl (kept_open out h (creates out w) begins)), refl))
    out_told (Err Outside) (inl (is, (h, held-is, inr began))) =
        back_same h (Err Outside) is held-is (inl (inr (refl, inr (kept_never_begun out h (creates out w) began)), refl))
    out_told (Err Outside) (inr (inl (printed, behind, part, (h, held-is, begins)))) =
        back_printed printed h (Err Outside) part.is held-is
        (inr (inl (printed, behind, gains world printed behind h part, leaves_open (prints ToOut printed (creates out w)) h refl begins)))
    out_told (Err Outside) (inr (inr (ends, over))) =
        back_printed (order_line ends.order) ends.file.0 (Err Outside) ends.printed ends.file.1
        (inr (inr (whole ends, kept_steps EndsOverFirst out ends.file.0 (prints ToOut (order_line ends.order) (creates out w)) over)))
    out_told (Err Memory) (inl (is, (h, held-is, begins))) =
        back_same h (Err Memory) is held-is (inl (inr (leaves_open (creates out w) h refl begins), refl))
    out_told (Err Memory) (inr (line, part, (h, held-is, begins))) =
        back_printed line h (Err Memory) part.is held-is
        (inr (line, gains world line [] h part, leaves_open (prints ToOut line (creates out w)) h refl begins))
    out_told (Err (Limit reached most)) (inl (passes, is, (h, held-is, begins))) =
        back_same h (Err (Limit reached most)) is held-is
        (inl (too_large reached most passes, leaves_open (creates out w) h refl begins, refl))
    out_told (Err (Limit reached most)) (inr (line, passes, part, (h, held-is, begins))) =
        back_printed line h (Err (Limit reached most)) part.is held-is (inr (
          line,
          too_large reached most passes,
          leaves_open (prints ToOut line (creates out w)) h refl begins,
          gains world line [] h part,
        ))
    out_told (Err (Line input line kind)) (first, world-is, (h, held-is, begins)) = (
      keeps_disk out h (creates out w),
      keeps out h _ world-is refl held-is,
      refl,
      others_kept out h (creates out w),
      (
        record { fields = fields; texts = texts; are = are; table = first.table; rows = first.rows; fails = first.fails },
        (refl, kept_open out h (creates out w) begins),
        refl,
      ),
    )
    out_told (Err (Schema line kind)) told = absurd told

    -- the name whose disk is out
    pub left_world : (result : Result Unit StoreError) → FileTold fields p texts (creates out w) world held result
        → (u : World) × (world ≡ Some u) × (u.creating ≡ Some out)
    left_world (Ok value) ends = (_, ends.printed, refl)
    left_world (Err Outside) (inl (is, some)) = (_, is, refl)
    left_world (Err Outside) (inr (inl (printed, behind, part, some))) = (_, part.is, refl)
    left_world (Err Outside) (inr (inr ends)) = (_, ends.0.printed, refl)
    left_world (Err Memory) (inl (is, some)) = (_, is, refl)
    left_world (Err Memory) (inr (line, part, some)) = (_, part.is, refl)
    left_world (Err (Limit reached most)) (inl (passes, is, some)) = (_, is, refl)
    left_world (Err (Limit reached most)) (inr (line, passes, part, some)) = (_, part.is, refl)
    left_world (Err (Line input line kind)) (first, world-is, some) = (_, world-is, refl)
    left_world (Err (Schema line kind)) told = absurd told

    -- the file was written in order
    pub back_in_order : (old : Option World) (disk : Option Held) (result : Result Unit StoreError) → disk ≡ Some nothing_held
        → IsInOrderFrom nothing_held disk held
        → FileTold fields p texts (creates out w) world held result → WritesInOrder out old world'
    back_in_order old disk result empty order told v v' is is' made =
        let left = left_world result told in
        let kept = order empty in
        let same : keeps_disk out kept.0 left.0 ≡ v' = some_is _ _ (sym (keeps out kept.0 left.0 left.1 left.2 kept.1) ∙ is') in
        subst (IsWrittenInOrder out) same (record {
          at = record { bytes = kept.0.image; log = Some kept.0.log };
          log = kept.0.log;
          there = stored_kept left.0.files out (record { bytes = kept.0.image; log = Some kept.0.log });
          steps = refl;
          order = kept.2;
        })
      where
        some_is : (a b : World) → ◌≡◌ {A = Option World} (Some a) (Some b) → a ≡ b
        some_is a b e = cc
