-- What RR gets in a session.
pub mod Poll
