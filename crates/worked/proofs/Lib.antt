mod Rivers
