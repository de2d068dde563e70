-- Where nothing is at fault POLICY stands in nowhere: what the tables take is what the text means. Assumes nothing.
use Rattle.std.specs.Prelude.{◌≡◌, refl, ℕ, leb}
use Rattle.std.proofs.Common.{sym, ◌∙◌, arith}
use Rattle.std.proofs.Math.Path.{ap}
use Rattle.std.proofs.Math.Option.{none, some}
use Rattle.text.specs.Choice.{split}
use Rattle.record.specs.Query.{Query}
use Rattle.expression.specs.Names.{environment}
use Rattle.naming.specs.Source.{Author}
use Rattle.naming.specs.Naming.{identified, author}
use Rattle.naming.specs.Fault.{Fault, clear, faulty, earlier, source_fault, policy_fault, author_fault, licensees_fault}
use Rattle.assertion.specs.Read.{kept, dropped}
use Rattle.assertion.specs.Said.{Said}
use Rattle.assertion.specs.Sketch.{Sketch}
use Rattle.assertion.specs.Form.{Form, formed, signed_by, finished}
use Rattle.assertion.specs.Resolved.{meant, fault_of, judged, resolved}
use Rattle.naming.specs.Theorems.StandIn.{licensed_now, entered-is, licensed-is}
use Rattle.assertion.specs.Working.StandIn.{entered_as}
use Rattle.naming.specs.Theorems.Authorized.{author_now}

pub never : {P : Type 0} (r p : ℕ) → faulty r p ≡ clear → P
never r p h = absurd (let z : ◌≡◌ {A = ℕ} 0 1 = cc in omega arith)

-- the earlier of two faults is none only where neither is one
pub clear_both : (f g : Fault) → earlier f g ≡ clear → (f ≡ clear) × (g ≡ clear)
clear_both clear g h = (refl, h)
clear_both (faulty r p) clear h = never r p h
clear_both (faulty r p) (faulty r' p') h = split (leb p p') (λ e. never r p (rw e at h)) (λ e. never r' p' (rw e at h))

pub author-is : (q : Query) (standing : ℕ) (a : Author) → author_fault standing q a ≡ clear → author_now q a ≡ author q a
unfolding author author_fault
author-is q standing a h =
    entered-is (environment q a.constants) a.by
    (clear_both (source_fault (environment q a.constants) a.by) (policy_fault standing a.by.place (identified (environment q a.constants) a.by)) h).0

-- a text that nothing is against asserts what was entered
pub resolved-clear : (q : Query) (standing : ℕ) (a : Said) → fault_of q standing a ≡ clear → resolved q standing (formed a) ≡ kept (entered_as q a)
unfolding meant entered_as fault_of
resolved-clear q standing a h =
    let k : _ = clear_both (author_fault standing q a.author) (licensees_fault q a.licensees) h in
    ap (judged q a) h ∙ ap kept (sym (cc (author-is q standing a.author k.0, licensed-is q a.licensees k.1)))

-- else it is set aside with that reason, there
pub resolved-faulty : (q : Query) (standing : ℕ) (a : Said) (r p : ℕ) → fault_of q standing a ≡ faulty r p → resolved q standing (formed a) ≡ dropped r p
resolved-faulty q standing a r p h = ap (judged q a) h

-- ---- the end of a text, of which the sketch d is read

module _ (q : Query) (standing : ℕ) (d : Sketch) (end : ℕ) where
  -- no Authorizer
  pub finished-none : d.author ≡ none → resolved q standing (finished d end) ≡ dropped 3 end
  unfolding finished
  finished-none h = rw h

  module _ (a : Author) (is : d.author ≡ some a) where
    said : Said
    said = record { author = a; licensees = d.licensees; conditions = d.conditions }

    finished-said : finished d end ≡ formed said
    unfolding finished said
    finished-said = ap (signed_by d end) is

    -- nothing is against either field: what was entered is kept
    pub finished-clear : earlier (author_fault standing q a) (licensees_fault q d.licensees) ≡ clear
        → resolved q standing (finished d end) ≡ kept (record { authorizer = author_now q a; licensees = licensed_now q d.licensees; conditions = d.conditions })
    unfolding said fault_of entered_as
    finished-clear h = ap (λ (r : Form). resolved q standing r) finished-said ∙ resolved-clear q standing said h

    -- the first of what is against them
    pub finished-faulty : (r p : ℕ) → earlier (author_fault standing q a) (licensees_fault q d.licensees) ≡ faulty r p
        → resolved q standing (finished d end) ≡ dropped r p
    unfolding said fault_of
    finished-faulty r p h = ap (λ (x : Form). resolved q standing x) finished-said ∙ resolved-faulty q standing said r p h
