use Rattle.std.proofs.Common.{◌≡◌, ◌∙◌, ◌∷◌, ◌++◌, [], ap, cond, map, sym, true, false, bytes_eq, string_bytes, Some, rules}
use Rattle.std.proofs.lemmas.List.{map_push}
use Rattle.spk_broker_rules.specs.Table.{has}
use Rattle.spk_broker.specs.Parts.{grant_view}
use Rattle.spk_broker.specs.Tables.{found, requests_view, with_last}
use Rattle.spk_broker.proofs.Requested.{Notes, last-has, put-new, put-there, told-there}
use Rattle.spk_broker.proofs.subscribe_entries.Requests.put.Goals as goal

pub returns-then-stands-clause-told : goal.returns-then-stands-clause-told
returns-then-stands-clause-told c =
    let f = found c.args.self.now.standing in
    let t = map grant_view c.args.self.now.granting.grants.items in
    let name = string_bytes c.args.filter.now in
    let noted : Notes name (Some c.args.qos) f (found c.note.new.self) = λ q.
    c.in_ok-note.ensures q ∙ ap (λ n. cond (bytes_eq n q) (Some (Some c.args.qos)) (f q)) c.as_str-2.ensures.value in
    let there : has name t ≡ true =
    sym (last-has name f t) ∙ ap (λ n. has n (map (with_last f) t)) (sym c.as_str.ensures.value) ∙ sym c.stands-stands.ensures ∙ c.if-stands.true in
    told-there name (Some c.args.qos) f (found c.note.new.self) t noted c.requires.told there

pub returns-then-stands-clause-view : goal.returns-then-stands-clause-view
returns-then-stands-clause-view c =
    let f = found c.args.self.now.standing in
    let t = map grant_view c.args.self.now.granting.grants.items in
    let name = string_bytes c.args.filter.now in
    let noted : Notes name (Some c.args.qos) f (found c.note.new.self) = λ q.
    c.in_ok-note.ensures q ∙ ap (λ n. cond (bytes_eq n q) (Some (Some c.args.qos)) (f q)) c.as_str-2.ensures.value in
    let there : has name t ≡ true =
    sym (last-has name f t) ∙ ap (λ n. has n (map (with_last f) t)) (sym c.as_str.ensures.value) ∙ sym c.stands-stands.ensures ∙ c.if-stands.true in
    ap (λ l. record (requests_view c.args.self.now) { grants = l }) (put-there name c.args.qos f (found c.note.new.self) t noted there)

pub returns-clause-view : goal.returns-clause-view
returns-clause-view c =
    let f = found c.args.self.now.standing in
    let t = map grant_view c.args.self.now.granting.grants.items in
    let name = string_bytes c.args.filter.now in
    let noted : Notes name (Some c.args.qos) f (found c.note.new.self) = λ q.
    c.in_ok-note.ensures q ∙ ap (λ n. cond (bytes_eq n q) (Some (Some c.args.qos)) (f q)) c.as_str-2.ensures.value in
    let none : has name t ≡ false =
    sym (last-has name f t) ∙ ap (λ n. has n (map (with_last f) t)) (sym c.as_str.ensures.value) ∙ sym c.stands-stands.ensures ∙ c.if-stands.false in
    let same : string_bytes c.in_ok-clone.field-0 ≡ name = search rules in
    let added : map grant_view c.push.new.self.items ≡ t ++ (name, c.args.qos) ∷ [] =
    ap (map grant_view) c.in_ok-push.ensures.items ∙ map_push grant_view c.args.self.now.granting.grants.items _ ∙ ap (λ n. t ++ (n, c.args.qos) ∷ []) same in
    ap (λ l. record (requests_view c.args.self.now) { grants = l })
    (ap (map (with_last (found c.note.new.self))) added ∙ put-new name c.args.qos f (found c.note.new.self) t noted none)
