-- Demand 3, of the definition: values of attributes that no kept assertion of a reached principal dereferences in its Conditions, and no text in
-- Authorizer or Licensees, have no effect on rank, rounds, reached and the report. Assumes nothing.
use Rattle.std.specs.Prelude.{◌≡◌, ℕ, ◌≤◌, length, take}
use Rattle.std.proofs.Common.{sym, ◌∙◌}
use Rattle.std.proofs.Math.Path.{ap, subst}
use Rattle.std.proofs.Math.Bool.{true, false}
use mathlib.Core.List.{List, map, Memᴰ as Mem}
use Rattle.record.specs.Query.{Query, Attribute, Supplied}
use Rattle.record.specs.Read.{accepted}
use Rattle.record.specs.Record.{read_record}
use Rattle.principal.specs.Members.{member}
use Rattle.compliance.specs.Reach.{InReach}
use Rattle.compliance.specs.Theorems.Alike.{Alike, AlikeIn, reach-same, rounds-same, reached-same, policy-same}
use Rattle.expression.specs.Names.{Environment, environment}
use Rattle.expression.specs.Value.{bytes_of}
use Rattle.expression.specs.Conditions.{top, evaluate}
use Rattle.expression.specs.Reads.{reads, is_set}
use Rattle.expression.proofs.Theorems.Unread.{evaluate-same}
use Rattle.naming.specs.Source.{Source, Licensees, given, sources}
use Rattle.naming.specs.Naming.{identified}
use Rattle.assertion.specs.Assertion.{Assertion}
use Rattle.assertion.specs.Said.{Said}
use Rattle.assertion.specs.Form.{read_assertion}
use Rattle.assertion.specs.Theorems.Agreed.{map_same, Agree, LicenseesAgree, SaidAgree, resolved-agree}
use Rattle.keynote.specs.Answer.{ranked, reading, readings, kept_of, system, class_given, rounds_of, reached_of}
use Rattle.keynote.specs.Report.{report, report_size}
use Rattle.keynote.specs.Outcome.{answer, needed, outcome, page_after}
use Rattle.keynote.specs.Secrets.{author_reads, licensees_read, naming_reads, Dereferenced, in-conditions, in-naming, AlikeWhere, AlikeBut}
use Rattle.keynote.specs.Theorems.Answered.{outcome-answered, report-written}
use Rattle.keynote.specs.Theorems.Numbers.{answered-fits}
use Rattle.keynote.specs.Theorems.Demand3.{SameAnswer, any-reads, constants-of, environment-other, environment-own, needed-same, or_left, or_right, ranked-alike, weaker, worth-same}

module _ {R : List ℕ → Type 0} {q q' : Query} (k : AlikeWhere R q q') where
  -- an expression that reads only where R holds identifies the same
  identified-same : (cs : List Attribute) (x : Source) → ((n : List ℕ) → is_set cs n ≡ false → reads x.says n ≡ true → R n) → Agree q q' cs x
  unfolding identified
  identified-same cs x h =
      let value : evaluate (environment q cs) x.says ≡ evaluate (environment q' cs) x.says =
      ap (λ (e : Environment). evaluate e x.says) (sym (environment-own q cs))
      ∙ evaluate-same (environment q cs) R k.attributes x.says (λ n r s. h n (ap (λ (l : List Attribute). is_set l n) (sym (constants-of q cs)) ∙ s) r)
      ∙ ap (λ (e : Environment). evaluate e x.says) (environment-other q q' cs k.values k.requesters) in
      ap bytes_of value

  licensees-same : (l : Licensees) → ((n : List ℕ) → licensees_read l n ≡ true → R n) → LicenseesAgree q q' l
  unfolding licensees_read
  licensees-same l h cs e x is m = identified-same cs x (λ n s r.
      let z : licensees_read (given cs e) n ≡ true = rw s (any-reads (sources e) x n m r) in h n (ap (λ (f : Licensees). licensees_read f n) is ∙ z))

  -- a text that names only where R holds is read the same
  said_same : (a : Said) → ((n : List ℕ) → naming_reads a n ≡ true → R n) → SaidAgree q q' a
  unfolding naming_reads author_reads
  said_same a h = (
    identified-same a.author.constants a.author.by (λ n s r.
        let z : author_reads a.author n ≡ true = rw s r in h n (or_left (author_reads a.author n) (licensees_read a.licensees n) z)),
    licensees-same a.licensees (λ n r. h n (or_right (author_reads a.author n) (licensees_read a.licensees n) r)),
  )

module _ (q q' : Query) (k : AlikeWhere (Dereferenced q) q q') where
  -- each text is read the same: what it names is dereferenced, reached or not
  pub readings-same : readings q ≡ readings q'
  unfolding readings reading
  readings-same =
      map_same (reading q) (reading q') q.assertions (λ x m.
      resolved-agree q q' x.standing (read_assertion x.standing x.text)
      (λ a e. said_same k a (λ n d. in-naming a (record { by = x; among = m; says = e }) d)))
      ∙ ap (map (reading q')) k.assertions

  -- the two systems are alike on the reach
  pub systems-alike : AlikeIn (InReach (system q)) (system q) (system q')
  unfolding system
  systems-alike = record {
    listed = subst (λ (l : List Assertion). Alike (InReach (system q)) (map (ranked q) (kept_of (readings q))) (map (ranked q') l)) (ap kept_of readings-same)
        (ranked-alike (InReach (system q)) q q' (kept_of (readings q)) (λ a m i. worth-same k a.conditions (λ n d. in-conditions a m i d)));
    asked = k.requesters;
    topped = ap top k.values;
  }

  pub class_same : class_given q ≡ class_given q'
  unfolding class_given
  class_same = policy-same systems-alike

  pub rounds-alike : rounds_of q ≡ rounds_of q'
  unfolding rounds_of
  rounds-alike = rounds-same systems-alike

  pub reached-alike : reached_of q ≡ reached_of q'
  unfolding reached_of
  reached-alike = reached-same systems-alike

  pub report-same : report (readings q) ≡ report (readings q')
  report-same = ap report readings-same

  pub answer-same : answer q ≡ answer q'
  unfolding answer
  answer-same = cc (class_same, rounds-alike, reached-alike)

  -- in the second query the same names are dereferenced
  pub dereferenced-same : (n : List ℕ) → Dereferenced q n → Dereferenced q' n
  dereferenced-same n (in-conditions a m i d) =
      in-conditions a (subst (λ (l : List Assertion). Mem a l) (ap kept_of readings-same) m) (sym (ap (member a.authorizer) (reach-same systems-alike)) ∙ i) d
  dereferenced-same n (in-naming a s d) =
      in-naming a (record { by = s.by; among = subst (λ (l : List Supplied). Mem s.by l) k.assertions s.among; says = s.says }) d

  pub dereferenced-back : (n : List ℕ) → Dereferenced q' n → Dereferenced q n
  dereferenced-back n (in-conditions a m i d) =
      in-conditions a (subst (λ (l : List Assertion). Mem a l) (sym (ap kept_of readings-same)) m) (ap (member a.authorizer) (reach-same systems-alike) ∙ i) d
  dereferenced-back n (in-naming a s d) =
      in-naming a (record { by = s.by; among = subst (λ (l : List Supplied). Mem s.by l) (sym k.assertions) s.among; says = s.says }) d

-- Demand 3: "Equal are rank, rounds, reached and all 3 + 3n bytes of the report", on pages that "may differ in size and in what they held"
pub demand-3 : (s s' : List ℕ) (q q' : Query) → read_record s ≡ accepted q → read_record s' ≡ accepted q'
    → AlikeWhere (Dereferenced q) q q'
    → (page page' : List ℕ) → needed q ≤ length page → needed q ≤ length page'
    → SameAnswer s s' page page' (needed q)
unfolding answer
demand-3 s s' q q' e e' k page page' h h' =
    let h'' : needed q' ≤ length page' = rw (← needed-same q q' k) h' in
    record {
      outcomes = outcome-answered s q e (length page) h ∙ answer-same q q' k ∙ sym (outcome-answered s' q' e' (length page') h'');
      answered = ap (λ o. o.number) (outcome-answered s q e (length page) h);
      reports = report-written s q e page h ∙ report-same q q' k ∙ sym (ap (λ n. take n (page_after s' page')) (needed-same q q' k) ∙ report-written s' q' e' page' h'');
    }

-- the same in other words: alike but for attributes of which none is dereferenced
pub demand-3-secrets : (S : List ℕ → Type 0) (s s' : List ℕ) (q q' : Query) → read_record s ≡ accepted q → read_record s' ≡ accepted q'
    → AlikeBut S q q' → ((n : List ℕ) → S n → Dereferenced q n → ⊥)
    → (page page' : List ℕ) → needed q ≤ length page → needed q ≤ length page'
    → SameAnswer s s' page page' (needed q)
demand-3-secrets S s s' q q' e e' k free =
    demand-3 s s' q q' e e' (record { values = k.values; requesters = k.requesters; attributes = weaker (λ n d z. free n z d) k.attributes; assertions = k.assertions })

-- and for any two pages on which both are answered: "accepted is number 0"
pub demand-3-accepted : (S : List ℕ → Type 0) (s s' : List ℕ) (q q' : Query) → read_record s ≡ accepted q → read_record s' ≡ accepted q'
    → AlikeBut S q q' → ((n : List ℕ) → S n → Dereferenced q n → ⊥)
    → (page page' : List ℕ) → (outcome s (length page)).number ≡ 0 → (outcome s' (length page')).number ≡ 0
    → SameAnswer s s' page page' (needed q)
unfolding needed
demand-3-accepted S s s' q q' e e' k free page page' h h' =
    let same : needed q' ≡ needed q = ap (λ l. report_size (length l)) (sym k.assertions) in
    demand-3-secrets S s s' q q' e e' k free page page' (answered-fits s q e (length page) h) (rw (← same) (answered-fits s' q' e' (length page') h'))
