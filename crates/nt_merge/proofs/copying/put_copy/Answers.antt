use Rattle.std.proofs.Common.{◌∙◌, ap, sym, refl, length, arith}
use Rattle.nt_book.specs.declared.meta.ClusterMeta.{ClusterMeta}
use Rattle.nt_append.specs.Appending.{range_behind}
use Rattle.nt_pagelists.proofs.Named.{clusters-unstaged}
use Rattle.nt_merge.proofs.Left.{lists-copied, same-limit, after-refusal}
use Rattle.nt_merge.proofs.copying.put_copy.Goals as goal

pub append_image-requires : goal.append_image-requires
append_image-requires g c =
    let made = c.in-Ok.ensures in
    let meta = made.meta in
    let len = ap (λ (m : ClusterMeta). m.len) meta in
    record {
      image_is = record {
        context_is = refl;
        whole = sym made.len;
        room = omega (arith, len);
        lists = ap (λ (m : ClusterMeta). length m.pages) meta
            ∙ (lists-copied c.args.loaded.now c.args.target.now.columns c.args.entries ∙ c.requires.columns_are);
        paged = made.paged;
      };
      not_staged = c.requires.not_staged;
      end = c.requires.end;
    }

pub returns-in-Ok-append_image-clause-left : goal.returns-in-Ok-append_image-clause-left
returns-in-Ok-append_image-clause-left g c =
    let laws = c.appended_parts_go_on.ensures in
    let image = c.in-Ok.image in
    let old = c.args.target.now.book in
    let new = c.append_image.new.book in
    let appends = c.in-Ok-append_image.ensures.ok in
    record {
      fits = same-limit c.args.loaded.now c.args.target.now.columns c.args.entries (g.D.Disk.state c.args.disk.now)
          (g.D.Disk.state c.append_image.new.disk) old new image c.in-Ok.ensures.meta
          ∙ c.in-Ok-append_image.ensures.limits (λ is. cc is);
      image = image;
      image_is = record { bytes_are = c.in-Ok.ensures.bytes; meta_is = c.in-Ok.ensures.meta };
      next = record {
        appends = appends;
        beside = λ t most beside. laws.beside t most image.meta old new c.keeps.ensures beside appends.gains;
        sizes = λ t most beside sizes. laws.sizes t most image.meta old new c.keeps.ensures beside appends.gains sizes;
        parts = λ t most ranges beside long.
            laws.parts t most image.meta old new ranges (range_behind image old) c.keeps.ensures c.keeps-in-Ok-append_image.ensures
            beside appends.gains
            (long ∙ ap length (clusters-unstaged old c.requires.not_staged));
      };
    }

pub returns-in-Err-append_image-clause-left : goal.returns-in-Err-append_image-clause-left
returns-in-Err-append_image-clause-left g c =
    after-refusal c.args.loaded.now c.args.target.now.columns c.args.entries _ _ c.args.target.now.book _ c.in-Ok.image
    c.in-Ok.ensures.meta _ c.in-Err-append_image.ensures.limits c.in-Err-append_image.ensures.kept c.in-Err-append_image.ensures.fault
