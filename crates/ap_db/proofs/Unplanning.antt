-- A planned commit taken back: what was taken out, the rows, and the Defines.
use Rattle.std.proofs.Common.{◌≡◌, List, [], Option, Some, None, refl, sym, ◌∙◌, ap, subst, arith}
use Rattle.std.specs.Prelude.{IsSome, vec_capacity}
use Rattle.std.proofs.lemmas.List.{append-nil}
use Rattle.ap_content.specs.Things.{Thing}
use Rattle.ap_content.specs.Entries.{Entry}
use Rattle.ap_content.specs.declared.node.Number.{Number}
use Rattle.ap_rows.specs.declared.change.Item.{Item}
use Rattle.ap_rows.specs.declared.row.Tables.{Tables}
use Rattle.ap_db.specs.declared.old.Old.{Old}
use Rattle.ap_db.specs.declared.state.State.{State}
use Rattle.ap_db.specs.declared.things.FileThing.{FileThing}
use Rattle.ap_db.specs.Stored.{Stored, values}
use Rattle.ap_db.specs.Commit.{PlainItem}
use Rattle.ap_db.specs.CommitLaw.{after_defines, after_puts}
use Rattle.ap_db.specs.LiveLaws.{value_of}
use Rattle.ap_db.specs.Members.{Has}
use Rattle.ap_db.specs.States.{StandsFor, Names, file_thing}
use Rattle.ap_db.specs.Planned.{HasRowsPut}
use Rattle.ap_db.specs.Putting.{HasRoomFor, ArePut}
use Rattle.ap_db.proofs.NamedItems.{names_live}
use Rattle.ap_db.proofs.PutSteps.{all_given_follow}

-- two states that stand for one store name the same things of the file
pub names_again : (s t : State) (contents : List (Option Entry)) (stored : Stored) → StandsFor s contents stored → StandsFor t contents stored → (m : Number) (x : Thing) → Names s.things.items contents m x → Names t.things.items contents m x
names_again s t contents stored a b m x names = step (file_thing s.things.items m) refl names.file
  where
    step : (o : Option FileThing) → file_thing s.things.items m ≡ o → IsSome o → Names t.things.items contents m x
    step None e some = absurd (cc some)
    step (Some thing) e some =
        let known = a.known m thing e in
        let same : known.value ≡ x = a.tidy.one_thing m known.value x known.stands names.stands in
        names_live t contents stored m x b (subst (Has (values stored)) same (value_of stored (record { 0 = thing.number }) known.value known.live)) names.stands

room_again : (stored : Stored) (plain : List PlainItem) (s t : State) → t.tables ≡ s.tables → HasRoomFor stored plain s → HasRoomFor stored plain t
room_again stored plain s t same room = record {
  places = record {
    sources = omega (arith, room.places.sources, ap (λ (tables : Tables). vec_capacity tables.sources) same);
    creates = omega (arith, room.places.creates, ap (λ (tables : Tables). vec_capacity tables.creates) same);
    jobs = omega (arith, room.places.jobs, ap (λ (tables : Tables). vec_capacity tables.jobs) same);
  };
  names = room.names;
}

-- once what was taken out is back, the rows are put as they were
pub rows_again : (state back : State) (contents : List (Option Entry)) (stored : Stored) (items : List Item) (plain : List PlainItem) (olds : List Old) → HasRowsPut state contents stored items plain olds → back.tables ≡ state.tables
    → StandsFor back contents (after_puts stored plain) → ArePut back contents (after_defines stored plain) plain items olds
rows_again state back contents stored items plain olds put same stands = record {
  has = record {
    first = plain;
    others = [];
    are = sym (append-nil plain);
    stands = stands;
    rise = put.rows.rise;
    given = all_given_follow (Names put.put.things.items contents) (Names back.things.items contents) (names_again put.put back contents (after_puts stored plain) put.rows.stands stands) (after_defines stored plain).tables plain olds put.rows.given;
  };
  say = put.rows.say;
  room = room_again (after_defines stored plain) plain put.put back (same ∙ put.same) put.rows.room;
}
