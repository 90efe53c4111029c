use Rattle.serial_audit.proofs.Lemmas.{refl, rules, with_items_is, line_claim, activation_in, index_more, refused, same_activation, taken}
use Rattle.serial_audit.proofs.auditing.Progress.take.Goals as goal

pub returns-in-None-clause-taken : goal.returns-in-None-clause-taken
returns-in-None-clause-taken c = λ job opening before same stands sound.
    let wants = refused job opening before (line_claim c.args.commit.now) c.args.self c.args.directory.now same stands sound in
    c.in-None.ensures job opening before stands wants.0 wants.1

pub returns-in-Some-2-clause-taken : goal.returns-in-Some-2-clause-taken
returns-in-Some-2-clause-taken c = λ job opening before same stands.
    let told = line_claim c.args.commit.now in
    let again = rw c.in-Some-2.is at c.in_ok-store.ensures.value in
    let marks = rw c.deref_mut.ensures.value at c.mark.ensures in
    let index = index_more job before told c.args.self.entries.items c.mark.new.entries stands.index marks in
    let same_items = with_items_is c.args.self.entries c.mark.new.entries (search rules) in
    taken job opening before told (activation_in c.in-Some.entry) c.args.self _ c.args.directory.now same stands
    (c.in-Some.ensures job opening before stands).0 again refl refl
    (rw same_items index)

pub returns-clause-taken : goal.returns-clause-taken
returns-clause-taken c = λ job opening before same stands sound.
    let told = line_claim c.args.commit.now in
    let wants = refused job opening before told c.args.self c.args.directory.now same stands sound in
    let one = same_activation job opening before told wants.0 (activation_in c.in-Some.entry) wants.1 (c.in-Some.ensures job opening before stands).0 in
    let none = rw c.in-None-2.is at c.in_ok-store.ensures.value in
    none wants.2.0 (rw one at wants.2.1)
