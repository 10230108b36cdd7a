-- What a context has taken after a line.
use Rattle.std.proofs.Common.{◌≡◌, inr, ℕ, ◌+◌, false, true, List, [], ◌∷◌, ◌++◌, length, Result, Ok, Err}
use Rattle.std.proofs.Common.{sym, ap, ◌∙◌, subst, append_assoc}
use Rattle.std.specs.List.{flat_map}
use Rattle.nt_types.specs.ShapeData.{MemberData, MembersData, parts_of}
use Rattle.nt_types.specs.TreeData.{TreeData, TreesData, trees_of}
use Rattle.nt_types.specs.Rules.{AreFields}
use Rattle.nt_types.specs.Fits.{fit_parts}
use Rattle.nt_types.specs.Lines.{is_blank_line}
use Rattle.nt_outside.specs.Disk.{DiskState}
use Rattle.nt_event.specs.declared.lines.Line.{Line}
use Rattle.nt_event.specs.Entry.{entry_of}
use Rattle.nt_event.specs.Standing.{SpellsTrees}
use Rattle.nt_grammar.proofs.Described.{described-open}
use Rattle.nt_dealing.proofs.TableFits.{table_fits}
use Rattle.nt_fill.specs.Context.{gathered, Gathers, GathersLine, MayGather}
use Rattle.nt_fill.specs.Flushes.{DiskContext}
use Rattle.nt_contexts.specs.declared.error.ContextError.{ContextError}
use Rattle.nt_contexts.specs.Filling.{IsFor, IsSameContext, IsOpen, HasTaken, Halts}
use Rattle.nt_lists.specs.Chunks.{chunks}
use Rattle.nt_contexts.specs.Taking.{WritesFull, TakesTextLine}

module _ {D P : Type 0} where
  pub same-trans : (a b c : DiskContext D P) → IsSameContext a b → IsSameContext b c → IsSameContext a c
  same-trans a b c h k = record {
    committer = k.committer ∙ h.committer;
    table = k.table ∙ h.table;
    cluster = k.cluster ∙ h.cluster;
    page = k.page ∙ h.page;
    staged = k.staged ∙ h.staged;
    number = k.number ∙ h.number;
  }

  gathers-same : (entry : TreesData) (old new : DiskContext D P) → Gathers entry old new → IsSameContext old new
  gathers-same entry old new h = record {
    committer = ap (λ (c : DiskContext D P). c.committer) h.now;
    table = ap (λ (c : DiskContext D P). c.table) h.now;
    cluster = ap (λ (c : DiskContext D P). c.cluster) h.now;
    page = ap (λ (c : DiskContext D P). c.page) h.now;
    staged = ap (λ (c : DiskContext D P). c.staged) h.now;
    number = ap (λ (c : DiskContext D P). c.pass.number) h.now;
  }

  -- an open context may gather and write
  pub open_gathers : (c : DiskContext D P) → IsOpen c → MayGather c
  open_gathers c is = record { alive = is.alive; unpublished = is.unpublished }

  module _ (state : D → DiskState) where
    pub took_entry : (entries : List TreesData) (entry : TreesData) (old new : DiskContext D P) → HasTaken state entries old
        → Gathers entry old new
        → HasTaken state (entries ++ entry ∷ []) new
    took_entry entries entry old new taken h =
        let after : DiskContext D P = record old { columns = new.columns; entries = new.entries } in
        let count : old.entries + 1 ≡ new.entries = sym (ap (λ (c : DiskContext D P). c.entries) h.now) in
        let now : new ≡ after = h.now ∙ ap (λ (n : ℕ). record old { columns = new.columns; entries = n }) count in
        let more : gathered after ≡ gathered old ++ entry ∷ [] = ap (λ (c : DiskContext D P). gathered c) (sym now) ∙ h.entries in
        let there : HasTaken state (entries ++ entry ∷ []) after = record {
          full = taken.full;
          wrote = taken.wrote;
          committed = taken.committed;
          sizes = taken.sizes;
          whole = ap (λ (l : List TreesData). l ++ entry ∷ []) taken.whole
              ∙ (append_assoc (flat_map (λ (c : List TreesData). c) taken.full) (gathered old) (entry ∷ [])
              ∙ ap (λ (l : List TreesData). flat_map (λ (c : List TreesData). c) taken.full ++ l) (sym more));
        } in
        subst (λ (c : DiskContext D P). HasTaken state (entries ++ entry ∷ []) c) (sym now) there

    pub took_line : (F : MembersData) (entries : List TreesData) (line : Line) (entry : TreesData) (old mid new : DiskContext D P)
        (result : Result Unit ContextError)
        → is_blank_line line.bytes ≡ false → entry_of F line.bytes ≡ Ok entry → Gathers entry old mid
        → WritesFull state (entries ++ entry ∷ []) mid new result → TakesTextLine state F entries line old new result
    took_line F entries line entry old mid new (Ok done) full is h w =
        inr (
          entry,
          record { full = full; is = is },
          record {
            taken = w.taken;
            is_open = w.is_open;
            same = same-trans old mid new
                (gathers-same entry old mid h) w.same;
          },
        )
    took_line F entries line entry old mid new (Err error) full is h w = inr (
      entry,
      record { full = full; is = is },
      λ rest.
          let same = gathers-same entry old mid h in
          let halts : Halts state (λ chunk. length chunk ≡ old.cluster) (chunks old.cluster ((entries ++ entry ∷ []) ++ rest)) mid new
          error =
          subst (λ (n : ℕ). Halts state (λ chunk. length chunk ≡ n) (chunks n ((entries ++ entry ∷ []) ++ rest)) mid new error) same.cluster
          (w rest) in
          record { same = same-trans old mid new same halts.same; committed = halts.committed; halt = halts.halt },
    )

    -- a line whose entry was gathered as it stands there
    pub took_spelled : (fields : List MemberData) (entries : List TreesData) (line : Line) (bytes : List ℕ) (old mid new : DiskContext D P)
        (result : Result Unit ContextError) → IsFor fields old → GathersLine bytes old mid → bytes ≡ line.bytes
        → is_blank_line bytes ≡ false
        → ((ps : List MemberData) (ts : List TreeData) (l : List ℕ) → AreFields ps → SpellsTrees ts l
        → fit_parts (parts_of ps) (trees_of ts) ≡ true → entry_of (parts_of ps) l ≡ Ok (trees_of ts))
        → HasTaken state entries old
        → ((es : List TreesData) → HasTaken state es mid → WritesFull state es mid new result)
        → TakesTextLine state (parts_of fields) entries line old new result
    took_spelled fields entries line bytes old mid new result is gathers same full reads taken writes =
        let F = parts_of fields in
        let entry = trees_of gathers.found in
        let fits = sym (table_fits fields is.plain old.table entry is.rows (described-open fields is.plain old.table is.rules is.rows))
        ∙ gathers.fits in
        took_line F entries line entry old mid new result
        (subst (λ (b : List ℕ). is_blank_line b ≡ false) same full)
        (subst (λ (b : List ℕ). entry_of F b ≡ Ok entry) same (reads fields gathers.found bytes is.rules gathers.spells fits))
        gathers.gathers (writes (entries ++ entry ∷ []) (took_entry entries entry old mid taken gathers.gathers))
