use Rattle.std.proofs.Common.{Bool, sym}
use Rattle.std.proofs.lemmas.List.{take-map}
use Rattle.nt_column.specs.Elements.{plain}
use Rattle.nt_column.specs.Bits.{bit_of}
use Rattle.nt_column.proofs.store.Store.cut.Goals as goal

pub returns-in-Bits-clause-elements : goal.returns-in-Bits-clause-elements
returns-in-Bits-clause-elements c = rw (c.in-Bits.is, c.truncate.ensures.items)
    (sym (take-map (λ (b : Bool). plain (bit_of b)) c.args.len c.in-Bits.list.items))

pub returns-in-Bytes-clause-elements : goal.returns-in-Bytes-clause-elements
returns-in-Bytes-clause-elements c = rw (c.in-Bytes.is, c.truncate-in-Bytes.ensures.items)
    (sym (take-map plain c.args.len c.in-Bytes.list.items))

pub returns-in-Words16-clause-elements : goal.returns-in-Words16-clause-elements
returns-in-Words16-clause-elements c = rw (c.in-Words16.is, c.truncate-in-Words16.ensures.items)
    (sym (take-map plain c.args.len c.in-Words16.list.items))

pub returns-in-Words32-clause-elements : goal.returns-in-Words32-clause-elements
returns-in-Words32-clause-elements c = rw (c.in-Words32.is, c.truncate-in-Words32.ensures.items)
    (sym (take-map plain c.args.len c.in-Words32.list.items))

pub returns-in-Words64-clause-elements : goal.returns-in-Words64-clause-elements
returns-in-Words64-clause-elements c = rw (c.in-Words64.is, c.truncate-in-Words64.ensures.items)
    (sym (take-map plain c.args.len c.in-Words64.list.items))
